-- A pile whose upper end is a Q-Channel, by what a Q device means.
use Rattle.std.specs.Prelude.{◌≡◌, Bool, true, is_ok, Ok, Result}
use Rattle.channel.specs.declared.phase.Phase.{Phase}
use Rattle.channel.specs.declared.device.Refusal.{Refusal}
use Rattle.channel.specs.declared.device.Call.{Call}
use Rattle.channel.specs.declared.device.Call.TheVariants as call
use Rattle.channel.specs.Means.{Means}
use Rattle.channel.specs.Calls.{lower_answer, raise_answer}
use Rattle.pile.specs.Views.{q_end, View}
use Rattle.pile.specs.Calls.{Kind, stop, back, tick}
use Rattle.pile.specs.declared.own.QCall.{QCall}
use Rattle.pile.specs.declared.own.QCall.TheVariants.{Lower, Raise, Step}

abbrev pub q_view : Means → View
q_view m = record { at = q_end m.phase; leaves = m.leaves; denier = m.denier }

abbrev pub q_kind : QCall → Kind
q_kind Lower = stop
q_kind Raise = back
q_kind Step = tick

-- a call's answer, by the phase before it: no step is refused
abbrev pub q_answer : QCall → Phase → Result Unit Refusal
q_answer Lower p = lower_answer p
q_answer Raise p = raise_answer p
q_answer Step p = Ok tt

-- a call as the device itself makes it, accepted just where its answer is no refusal
abbrev pub q_makes : {S : Type 0} → (S → Means) → (Call → S → S → Type 0) → QCall → Bool → S → S → Type 0
q_makes means makes Lower b x y = (b ≡ is_ok (lower_answer (means x).phase)) × makes call.Lower x y
q_makes means makes Raise b x y = (b ≡ is_ok (raise_answer (means x).phase)) × makes call.Raise x y
q_makes means makes Step b x y = (b ≡ true) × makes call.Step x y
