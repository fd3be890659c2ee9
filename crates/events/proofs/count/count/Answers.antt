use Rattle.std.proofs.Common.{refl, sym, arith}
use Rattle.words.proofs.Decimals.{is_decimal}
use Rattle.words.proofs.Written.{decimal_long}
use Rattle.events.proofs.count.count.Goals as goal

pub returns-then-w-gt5 : goal.returns-then-w-gt5
returns-then-w-gt5 c = sym (decimal_long 5 65535 (omega arith) (omega arith) (omega arith) c.args.w.now (omega (arith, c.if-w-gt5.true)))

pub returns : goal.returns
returns c = is_decimal 16 65535 refl c.args.w.now c.decimal.result c.decimal.ensures
