-- Graphs that are told, one after the other.
use Rattle.std.proofs.Common.{inl, inr, ℕ, suc, List, ◌∷◌, Option, Some, None, sym, ap, subst}
use Rattle.pin_rule.specs.Lists.{In}
use Rattle.slot_store.specs.GraphAnswers.{HasRows, AddsRow, WhereTold}
use Rattle.live_graph.specs.Growing.{WhereBothTold, HasAsMany}

abbrev Graph : Type 0
Graph = List (List ℕ)

-- ---- told or not

module _ (P Q R : Graph → Graph → Type 0) where
  pub told_join : (first middle last : Option Graph) → ((f m l : Graph) → P f m → Q m l → R f l) → WhereBothTold first middle P → WhereBothTold middle last Q
      → WhereBothTold first last R
  told_join None None None join p q = tt
  told_join None None (Some l) join p q = absurd q
  told_join None (Some m) last join p q = absurd p
  told_join (Some f) None last join p q = absurd p
  told_join (Some f) (Some m) None join p q = absurd q
  told_join (Some f) (Some m) (Some l) join p q = join f m l p q

module _ (P Q : Graph → Graph → Type 0) where
  pub told_map : (first last : Option Graph) → ((f l : Graph) → P f l → Q f l) → WhereBothTold first last P → WhereBothTold first last Q
  told_map None None on p = tt
  told_map None (Some l) on p = absurd p
  told_map (Some f) None on p = absurd p
  told_map (Some f) (Some l) on p = on f l p

  -- with what is told of the first alone
  pub told_with : (T : Graph → Type 0) (first last : Option Graph) → ((f l : Graph) → T f → P f l → Q f l) → WhereTold first T → WhereBothTold first last P
      → WhereBothTold first last Q
  told_with T None None on t p = tt
  told_with T None (Some l) on t p = absurd p
  told_with T (Some f) None on t p = absurd p
  told_with T (Some f) (Some l) on t p = on f l t p

pub told_same : (P : Graph → Graph → Type 0) (told : Option Graph) → ((g : Graph) → P g g) → WhereBothTold told told P
told_same P None on = tt
told_same P (Some g) on = on g

pub told_of : (T : Graph → Type 0) (P : Graph → Graph → Type 0) (told : Option Graph) → ((g : Graph) → T g → P g g) → WhereTold told T
    → WhereBothTold told told P
told_of T P None on t = tt
told_of T P (Some g) on t = on g t

-- ---- how many rows

pub as_many : (graph : Graph) (count : ℕ) → HasRows graph count → HasAsMany graph count
as_many graph count has = record { rows = has.rows; many = has.many; once = has.once; known = has.known }

pub still_as_many : (graph next : Graph) (count : ℕ) → ((row : List ℕ) → In row graph → In row next) → HasAsMany graph count → HasAsMany next count
still_as_many graph next count kept has = record { rows = has.rows; many = has.many; once = has.once; known = λ row there. kept row (has.known row there) }

pub one_more : (graph next : Graph) (row : List ℕ) (count : ℕ) → (In row graph → ⊥) → AddsRow graph next row → HasRows graph count
    → HasRows next (suc count)
one_more graph next row count lacks adds has = record {
  rows = row ∷ has.rows;
  many = ap suc has.many;
  once = (λ there. lacks (has.known row there), has.once);
  known = λ other there. elim there [
    | inl same ↦ subst (λ r. In r next) (sym same) adds.added
    | inr old ↦ adds.kept other (has.known other old)
  ];
  every = λ other there. elim (adds.only other there) [ inl old ↦ inr (has.every other old) | inr same ↦ inl same ];
}
