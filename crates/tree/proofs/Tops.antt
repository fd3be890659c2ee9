-- The calls of a tree, from the laws of the nested tree and of the cells.
use Rattle.std.proofs.Common.{◌≡◌, ℕ, zero, suc, ◌-◌, ◌<◌, Bool, true, false, cond, ◌≤◌, List, length, set, get_or, Some, None, Option, sym, refl, ap, ◌∙◌, subst, arith}
use Rattle.std.proofs.lemmas.Bool.{cond-false}
use Rattle.std.proofs.lemmas.List.{get_or_default}
use Rattle.channel.specs.declared.phase.Phase.{Phase}
use Rattle.channel.specs.declared.phase.Phase.TheVariants.{Stopped}
use Rattle.joins.specs.declared.rules.Drive.{Drive}
use Rattle.joins.specs.declared.rules.Drive.TheVariants.{Nothing, Lower, Raise}
use Rattle.cells.specs.declared.cell.Body.{Body}
use Rattle.cells.specs.declared.cell.Cell.{Cell}
use Rattle.cells.specs.Bodies.{body_phase, body_denier, driven_body, reset_body}
use Rattle.cells.specs.Nests.{Nest, empty, nest_means, drive_nest, turn, reset_nest}
use Rattle.cells.specs.Flat.{absent, body_at, with_body, put, stepped, reset_to, Wired}
use Rattle.cells.proofs.Calls.{top_drives, driven_wired, reset_all, nest_resets}
use Rattle.cells.proofs.Same.{nest_phase, nest_denier, top_steps}
use Rattle.channel.specs.declared.device.Call.{Call}
use Rattle.channel.specs.declared.device.Call.TheVariants as call
use Rattle.channel.specs.Calls.{Lowered, Stepped, Reset}
use Rattle.channel.specs.Timing.{Ticked}
use Rattle.cells.specs.Nests.{nest_timing, NestOrder, timed_leaf, work_leaf, join, nest_after}
use Rattle.cells.proofs.Leaf.{timed_lower_refused, timed_raise_refused, work_lower_refused, work_raise_refused}
use Rattle.cells.proofs.Nested.{drive_kept, turn_kept, reset_kept}
use Rattle.topology.specs.declared.node.Node.{Node}
use Rattle.topology.specs.Trees.{WellFormed}
use Rattle.tree.specs.declared.state.Tree.{Tree}
use Rattle.tree.specs.Tells.{top_body}
use Rattle.tree.specs.Loads.{Laid}
use Rattle.tree.proofs.Lays.{laid_wired, laid_reset}
use Rattle.tree.specs.Top.{top}
use Rattle.tree.specs.Ordered.{tree_order}
use Rattle.tree.specs.Trees.{top_driven, own_driven, own_stepped, lowers, raises, cells_after, own_after, lines_of, tree_nest, tree_means, tree_timing, TreeMade, Driven}

-- the phase and the denier of the top line's device, if there is one
abbrev pub phase_of : Phase → Option Body → Phase
phase_of own None = own
phase_of own (Some b) = body_phase b

abbrev pub denier_of : Option Body → Option ℕ
denier_of None = None
denier_of (Some b) = body_denier b

pub top_is_driven : (d : Drive) (n : ℕ) (cs : List Cell) → 0 < n → put cs (n - 1) (driven_body d (body_at cs (n - 1))) ≡ top_driven d n cs
top_is_driven d zero cs h = let z : ⊥ = omega arith in elim z [ ]
top_is_driven d (suc t) cs h = let e : suc t - 1 ≡ t = omega arith in ap (λ k. put cs k (driven_body d (body_at cs k))) e

-- a device written into a cell that is there
pub put_by : (cs : List Cell) (i : ℕ) (x : Cell) (b : Body) → i < length cs → set cs i (with_body (get_or cs i x) b) ≡ put cs i b
unfolding put
put_by cs i x b h = ap (λ c. set cs i (with_body c b)) (get_or_default cs i x absent h)

pub top_put : (d : Drive) (n i : ℕ) (cs : List Cell) (x y : Cell) (b : Body) → 1 ≤ n → i ≡ n - 1 → i < length cs
    → b ≡ driven_body d (get_or cs i x).body → set cs i (with_body (get_or cs i y) b) ≡ top_driven d n cs
top_put d n i cs x y b h e l eb =
    put_by cs i y b l
    ∙ (ap (put cs i) (eb ∙ ap (λ c. driven_body d c.body) (get_or_default cs i x absent l))
    ∙ (ap (λ k. put cs k (driven_body d (body_at cs k))) e ∙ top_is_driven d n cs h))

pub driven_nested : (d : Drive) (n : ℕ) (own : Phase) (cs : List Cell) → Wired n cs
    → top n (own_driven d n own) (top_driven d n cs) ≡ drive_nest d (top n own cs)
driven_nested d zero own cs w = refl
driven_nested d (suc t) own cs w = top_drives t d cs w

pub top_driven_wired : (d : Drive) (n : ℕ) (cs : List Cell) → Wired n cs → Wired n (top_driven d n cs)
top_driven_wired d zero cs w = w
top_driven_wired d (suc t) cs w = driven_wired (suc t) t d cs (omega arith) w

pub own_some : (d : Drive) (n : ℕ) (own : Phase) → 0 < n → own ≡ own_driven d n own
own_some d zero own h = let z : ⊥ = omega arith in elim z [ ]
own_some d (suc t) own h = refl

top_alike : (m n : ℕ) (p q : Phase) (ds cs : List Cell) → m ≡ n → p ≡ q → ds ≡ cs → top m p ds ≡ top n q cs
top_alike m n p q ds cs e f g = rw (e, f, g)

pub driven_made : (d : Drive) (t u : Tree) → u.count ≡ t.count → lines_of u ≡ top_driven d t.count (lines_of t)
    → u.own ≡ own_driven d t.count t.own → u.cells.ghost_name ≡ t.cells.ghost_name → Driven d t u
driven_made d t u e f g l = record {
  count = e;
  cells = f;
  own = g;
  lent = l;
  nested = top_alike _ t.count _ _ _ _ e g f ∙ driven_nested d t.count t.own (lines_of t) t.wired;
}

-- a refused call leaves the nested tree as it is
lower_refused : (t : Nest) → lowers t ≡ false → drive_nest Lower t ≡ t
lower_refused (empty p) e = grind arith
lower_refused (timed_leaf t) e = ap timed_leaf (timed_lower_refused t e)
lower_refused (work_leaf w) e = ap work_leaf (work_lower_refused w e)
lower_refused (join k q a b) e = grind arith

raise_refused : (t : Nest) → raises t ≡ false → drive_nest Raise t ≡ t
raise_refused (empty p) e = grind arith
raise_refused (timed_leaf t) e = ap timed_leaf (timed_raise_refused t e)
raise_refused (work_leaf w) e = ap work_leaf (work_raise_refused w e)
raise_refused (join k q a b) e = grind arith

stepped_nested : (n : ℕ) (own : Phase) (cs : List Cell) → Wired n cs → top n (own_stepped n own) (stepped n cs) ≡ turn Nothing (top n own cs)
stepped_nested zero own cs w = refl
stepped_nested (suc t) own cs w = top_steps t cs w

reset_nested : (n : ℕ) (own : Phase) (cs : List Cell) → Wired n cs → top n Stopped (reset_to n cs) ≡ reset_nest (top n own cs)
reset_nested zero own cs w = refl
reset_nested (suc t) own cs w =
    nest_resets (suc t) (suc t) t cs _ w (reset_all (suc t) cs w.fits) (omega arith) (omega arith)

cond_nested : (b : Bool) (n : ℕ) (p q : Phase) (ds cs : List Cell) (r : Nest) → (b ≡ true → top n p ds ≡ r) → (b ≡ false → top n q cs ≡ r)
    → top n (cond b p q) (cond b ds cs) ≡ r
cond_nested true n p q ds cs r t f = t refl
cond_nested false n p q ds cs r t f = f refl

after_nested : (c : Call) (n : ℕ) (own : Phase) (cs : List Cell) → Wired n cs
    → top n (own_after c n own cs) (cells_after c n own cs) ≡ nest_after c (top n own cs)
after_nested call.Lower n own cs w =
    cond_nested (lowers (top n own cs)) n _ _ _ _ _ (λ e. driven_nested Lower n own cs w) (λ e. sym (lower_refused (top n own cs) e))
after_nested call.Raise n own cs w =
    cond_nested (raises (top n own cs)) n _ _ _ _ _ (λ e. driven_nested Raise n own cs w) (λ e. sym (raise_refused (top n own cs) e))
after_nested call.Step n own cs w = stepped_nested n own cs w
after_nested call.Restart n own cs w = reset_nested n own cs w

-- what a call makes of the cells makes it of the nested tree
pub tree_made : (c : Call) (t u : Tree) → u.count ≡ t.count → lines_of u ≡ cells_after c t.count t.own (lines_of t)
    → u.own ≡ own_after c t.count t.own (lines_of t) → u.cells.ghost_name ≡ t.cells.ghost_name → TreeMade c t u
tree_made c t u e f g l = record {
  count = e;
  cells = f;
  own = g;
  lent = l;
  nested = top_alike _ t.count _ _ _ _ e g f ∙ after_nested c t.count t.own (lines_of t) t.wired;
}

-- the trait's clauses, from the nested tree
module _ (t u : Tree) where
  pub lower_order : tree_nest u ≡ drive_nest Lower (tree_nest t) → Lowered (tree_means t) (tree_means u)
  lower_order e = subst (λ n. Lowered (tree_means t) (nest_means n)) (sym e) (drive_kept Lower (tree_nest t) (tree_order t)).drove

  -- a step drives nothing at the top first
  undriven : (n : Nest) → drive_nest Nothing n ≡ n
  undriven (empty p) = refl
  undriven (timed_leaf l) = refl
  undriven (work_leaf l) = refl
  undriven (join k q a b) = refl

  pub step_order : TreeMade call.Step t u
      → Stepped (tree_means t) (tree_means u) × Ticked (tree_means t).phase (tree_means u).phase (tree_timing t) (tree_timing u)
  step_order m =
      let k = turn_kept Nothing (tree_nest t) (tree_order t) in
      let e = undriven (tree_nest t) in (
        subst (λ n. Stepped (tree_means t) (nest_means n)) (sym m.nested)
            (subst (λ n. Stepped (nest_means n) (nest_means (turn Nothing (tree_nest t)))) e k.stepped),
        subst (λ n. Ticked (tree_means t).phase (nest_means n).phase (tree_timing t) (nest_timing n)) (sym m.nested)
            (subst (λ n. Ticked (nest_means n).phase (nest_means (turn Nothing (tree_nest t))).phase (nest_timing n) (nest_timing (turn Nothing (tree_nest t)))) e k.ticked),
      )

  pub reset_order : TreeMade call.Restart t u → Reset (tree_means t) (tree_means u) × ((tree_timing u).bound ≡ (tree_timing t).bound)
  reset_order m =
      let k = reset_kept (tree_nest t) in (
        subst (λ n. Reset (tree_means t) (nest_means n)) (sym m.nested) k.order,
        subst (λ n. (nest_timing n).bound ≡ (tree_timing t).bound) (sym m.nested) k.same_bound,
      )

-- the order that the type holds, after each call
pub driven_order : (d : Drive) (n : ℕ) (own : Phase) (cs : List Cell) → Wired n cs → NestOrder (top n own cs)
    → NestOrder (top n (own_driven d n own) (top_driven d n cs))
driven_order d n own cs w o = subst NestOrder (sym (driven_nested d n own cs w)) (drive_kept d (top n own cs) o).kept

pub own_order : (n : ℕ) (own : Phase) (cs : List Cell) → NestOrder (top n own cs) → NestOrder (top n (own_stepped n own) cs)
own_order zero own cs o = (turn_kept Nothing (empty own) o).kept
own_order (suc t) own cs o = o

pub rest_order : (n : ℕ) (own : Phase) (cs : List Cell) → NestOrder (top n own cs) → NestOrder (top n Stopped cs)
rest_order zero own cs o = tt
rest_order (suc t) own cs o = o

pub stepped_order : (n : ℕ) (own : Phase) (cs : List Cell) → Wired n cs → NestOrder (top n own cs)
    → NestOrder (top n (own_stepped n own) (stepped n cs))
stepped_order n own cs w o = subst NestOrder (sym (stepped_nested n own cs w)) (turn_kept Nothing (top n own cs) o).kept

pub reset_ordered : (n : ℕ) (own : Phase) (cs : List Cell) → Wired n cs → NestOrder (top n Stopped (reset_to n cs))
reset_ordered n own cs w = subst NestOrder (sym (reset_nested n own cs w)) (reset_kept (top n own cs)).kept

-- the phase and the denier of the top
pub top_phase : (n : ℕ) (own : Phase) (cs : List Cell) → Wired n cs → phase_of own (top_body n cs) ≡ (nest_means (top n own cs)).phase
top_phase zero own cs w = refl
top_phase (suc t) own cs w = sym (nest_phase (suc t) cs t (omega arith) (w.filled t (omega arith)))

pub top_denier : (n : ℕ) (own : Phase) (cs : List Cell) → Wired n cs → denier_of (top_body n cs) ≡ (nest_means (top n own cs)).denier
top_denier zero own cs w = refl
top_denier (suc t) own cs w = sym (nest_denier (suc t) cs t (omega arith) (w.filled t (omega arith)))

-- a refused one leaves all as it is
pub lower_stays : (t : Tree) → lowers (tree_nest t) ≡ false → TreeMade call.Lower t t
lower_stays t e = tree_made call.Lower t t refl (sym (cond-false (lowers (tree_nest t)) _ _ e)) (sym (cond-false (lowers (tree_nest t)) _ _ e)) refl

pub raise_stays : (t : Tree) → raises (tree_nest t) ≡ false → TreeMade call.Raise t t
raise_stays t e = tree_made call.Raise t t refl (sym (cond-false (raises (tree_nest t)) _ _ e)) (sym (cond-false (raises (tree_nest t)) _ _ e)) refl

-- a tree whose lines are as after a reset is its own reset
pub fresh_nested : (n : ℕ) (cs : List Cell) → Wired n cs → ((i : ℕ) → i < n → body_at cs i ≡ reset_body (body_at cs i))
    → top n Stopped cs ≡ reset_nest (top n Stopped cs)
fresh_nested zero cs w f = refl
fresh_nested (suc t) cs w f =
    nest_resets (suc t) (suc t) t cs cs w (record { long = refl; done = f; rest = λ i h. refl }) (omega arith) (omega arith)

pub fresh_reset : (n : Nest) → n ≡ reset_nest n → Reset (nest_means n) (nest_means n) × NestOrder n
fresh_reset n e =
    let k = reset_kept n in
    (subst (λ m. Reset (nest_means n) (nest_means m)) (sym e) k.order, subst NestOrder (sym e) k.kept)

-- a tree of laid lines
pub laid_at : (m : ℕ) (ns : List Node) (cs : List Cell) → m ≡ length ns → WellFormed ns → length ns ≤ length cs → Laid ns cs → Wired m cs
laid_at m ns cs e w f l = subst (λ n. Wired n cs) (sym e) (laid_wired ns cs w f l)

pub laid_fresh : (m : ℕ) (ns : List Node) (cs : List Cell) → m ≡ length ns → WellFormed ns → length ns ≤ length cs → Laid ns cs
    → top m Stopped cs ≡ reset_nest (top m Stopped cs)
laid_fresh m ns cs e w f l = fresh_nested m cs (laid_at m ns cs e w f l) (λ i h. (laid_reset ns cs f l).done i (omega arith))

pub laid_order : (m : ℕ) (ns : List Node) (cs : List Cell) → m ≡ length ns → WellFormed ns → length ns ≤ length cs → Laid ns cs
    → Reset (nest_means (top m Stopped cs)) (nest_means (top m Stopped cs)) × NestOrder (top m Stopped cs)
laid_order m ns cs e w f l = fresh_reset (top m Stopped cs) (laid_fresh m ns cs e w f l)
