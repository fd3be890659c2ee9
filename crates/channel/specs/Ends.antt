-- What a lower and a raise make of the lower end of a Q-Channel.
use Rattle.std.specs.Prelude.{None}
use Rattle.channel.specs.declared.phase.Phase.{Phase}
use Rattle.channel.specs.declared.phase.Phase.TheVariants.{Run, Request, Stopped, Exit, Denied, Continue}
use Rattle.channel.specs.Means.{Means}
use Rattle.channel.specs.declared.end.QEnd.{QEnd}

-- where a device stands, and who denied
abbrev pub end_of : Means → QEnd
end_of m = record { phase = m.phase; denier = m.denier }

abbrev pub at_rest : QEnd
at_rest = record { phase = Stopped; denier = None }

-- the same denier in another phase
abbrev pub end_at : Phase → QEnd → QEnd
end_at p e = record { phase = p; denier = e.denier }

abbrev pub lowered_at : Phase → QEnd → QEnd
lowered_at Run e = record { phase = Request; denier = None }
lowered_at Request e = e
lowered_at Stopped e = e
lowered_at Exit e = e
lowered_at Denied e = e
lowered_at Continue e = e

abbrev pub end_lowered : QEnd → QEnd
end_lowered e = lowered_at e.phase e

abbrev pub raised_at : Phase → QEnd → QEnd
raised_at Run e = e
raised_at Request e = e
raised_at Stopped e = end_at Exit e
raised_at Exit e = e
raised_at Denied e = end_at Continue e
raised_at Continue e = e

abbrev pub end_raised : QEnd → QEnd
end_raised e = raised_at e.phase e
