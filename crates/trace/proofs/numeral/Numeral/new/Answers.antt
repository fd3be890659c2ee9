use Rattle.std.proofs.Common.{ap, ◌∙◌, arith}
use Rattle.words.specs.Shorts.{short_text}
use Rattle.words.proofs.Written.{text_short}
use Rattle.trace.proofs.numeral.Numeral.new.Goals as goal

pub returns : goal.returns
returns c =
    ap short_text c.new.ensures
    ∙ (text_short 10 c.as_bytes-text.result.now (omega arith) (omega arith) ∙ (c.as_bytes-text.ensures.value ∙ c.format.ensures.text))
