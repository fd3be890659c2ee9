use Rattle.std.proofs.Common.{rules, refl, sym, ap, arith}
use Rattle.words.specs.Numbers.{at_least}
use Rattle.words.proofs.Decimals.{is_decimal}
use Rattle.words.proofs.Written.{decimal_long}
use Rattle.words.proofs.number.number.Goals as goal

pub returns-then-w-gt3 : goal.returns-then-w-gt3
returns-then-w-gt3 c = sym (ap (at_least c.args.low) (decimal_long 3 255 (omega arith) (omega arith) (omega arith) c.args.w.now (omega (arith, c.if-w-gt3.true))))

pub returns : goal.returns
returns c = let e = is_decimal 8 255 refl c.args.w.now c.decimal.result c.decimal.ensures in search (rules, ap (at_least c.args.low) e)
