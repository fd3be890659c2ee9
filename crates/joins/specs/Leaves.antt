-- Two lists of leaves, one after the other.
use Rattle.std.proofs.Common.{◌≡◌, ℕ, List, [], ◌∷◌, ◌++◌, None, Option, refl, ap, ◌∙◌, arith}
use Rattle.channel.specs.declared.phase.Phase.{Phase}
use Rattle.channel.specs.declared.phase.Phase.TheVariants.{Run, Request, Stopped, Exit, Denied, Continue}
use Rattle.channel.specs.Means.{Leaf, Each, tags, tag_or, leftmost}
use Rattle.joins.specs.Rules.{or_else}

pub each_++ : (P : Phase → Type 0) (ls ks : List Leaf) → Each P ls → Each P ks → Each P (ls ++ ks)
each_++ P [] ks a b = b
each_++ P (l ∷ ls) ks a b = (a.0, each_++ P ls ks a.1 b)

pub each_map : (P Q : Phase → Type 0) → ((p : Phase) → P p → Q p) → (ls : List Leaf) → Each P ls → Each Q ls
each_map P Q f [] a = tt
each_map P Q f (l ∷ ls) a = (f l.at a.0, each_map P Q f ls a.1)

pub tags-++ : (ls ks : List Leaf) → tags (ls ++ ks) ≡ tags ls ++ tags ks
tags-++ [] ks = refl
tags-++ (l ∷ ls) ks = ap (λ ts. l.tag ∷ ts) (tags-++ ls ks)

tag_or_else : (p : Phase) (t : ℕ) (x y : Option ℕ) → tag_or p t (or_else x y) ≡ or_else (tag_or p t x) y
tag_or_else Run t x y = refl
tag_or_else Request t x y = refl
tag_or_else Stopped t x y = refl
tag_or_else Exit t x y = refl
tag_or_else Denied t x y = refl
tag_or_else Continue t x y = refl

pub leftmost-++ : (ls ks : List Leaf) → leftmost (ls ++ ks) ≡ or_else (leftmost ls) (leftmost ks)
leftmost-++ [] ks = refl
leftmost-++ (l ∷ ls) ks =
    ap (tag_or l.at l.tag) (leftmost-++ ls ks) ∙ tag_or_else l.at l.tag (leftmost ls) (leftmost ks)

-- where all leaves stand at one phase other than Denied, none is the leftmost at Denied
pub none_denied : (p : Phase) → (p ≡ Denied → ⊥) → (ls : List Leaf) → Each (λ q. q ≡ p) ls → leftmost ls ≡ None
none_denied p n [] a = refl
none_denied p n (l ∷ ls) a =
    let r : leftmost ls ≡ None = none_denied p n ls a.1 in
    let e : l.at ≡ p = a.0 in
    grind arith
