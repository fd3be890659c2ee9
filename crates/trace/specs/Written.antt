-- What stands on a sheet, and what its lines begin with.
use Rattle.std.specs.Prelude.{◌≡◌, ℕ, List}
use Rattle.trace.specs.declared.sheet.Sheet as declared
use Rattle.trace.specs.Sheets.{Sheet, sheet, onto}

-- a sheet's buffer, and the place behind what is written
abbrev pub written : declared.Sheet → Sheet
written s = sheet s.out.now s.at

-- the same tick, and the same buffer that is written into
pub record IsSame (s t : declared.Sheet) : Type 0 where
  pub tick : t.tick ≡ s.tick
  pub buffer : t.out.ghost_name ≡ s.out.ghost_name

-- lines written behind what stands on a sheet, which keeps its tick and its buffer
pub record Adds (s t : declared.Sheet) (ls : List (List ℕ)) : Type 0 where
  pub lines : written t ≡ onto (written s) ls
  pub same : IsSame s t
