-- The winner of a set, mark by mark.
use Rattle.std.proofs.Common.{◌≡◌, ℕ, ◌+◌, ◌<◌, ◌≤◌, ◌⊎◌, inl, inr, ◌||◌, if◌then◌else◌, List, [], ◌∷◌, ◌++◌, length, get_or, take, Option, Some, None, refl}
use Rattle.std.proofs.Common.{sym, ap, ◌∙◌, subst, nat_eq}
use Rattle.std.proofs.lemmas.List.{take_more, take_all}
use Rattle.std.proofs.lemmas.List.Elements.{Contains-append_left, Contains-push, Contains-push_cases}
use Rattle.std.proofs.lemmas.Map.Lookups.{exact_unsigned}
use Rattle.std.specs.Cmp.{nat_cmp_total}
use Rattle.std.specs.Ordering.{nat_cmp, ordering_reverse, is_lt}
use Rattle.std.specs.declared.cmp.Ordering.{Ordering}
use Rattle.std.specs.declared.cmp.Ordering.TheVariants.{Less, Equal, Greater}
use Rattle.std.specs.List.{list_any}
use Rattle.regex_ast.specs.Bytes.{has}
use Rattle.forest.specs.declared.symbols.SymbolId.{SymbolId}
use Rattle.forest.specs.declared.rules.RuleId.{RuleId}
use Rattle.edit_log.specs.declared.definitions.DefId.{DefId}
use Rattle.edit_log.specs.declared.definitions.DefId.TheVariants.{Literal as literal, Named as named}
use Rattle.edit_log.specs.History.{Grammar}
use Rattle.edit_log.specs.Live.{definition_cmp}
use Rattle.isg_states.specs.declared.mark.Mark.{Mark}
use Rattle.isg_states.specs.declared.scan_key.ScanKey.TheVariants.{Set}
use Rattle.isg_states.specs.Patterns.{IsLastMark}
use Rattle.isg_states.specs.Winners.{HasLast, Accepts, IsFirstEnded, first_definition}

-- ---- the order of definitions

turned_number : (a b : ℕ) → nat_cmp a b ≡ Greater → nat_cmp b a ≡ Less
turned_number a b e = nat_cmp_total.antisymm b a ∙ ap ordering_reverse e

turned : (a b : DefId) → definition_cmp a b ≡ Greater → definition_cmp b a ≡ Less
turned (literal a) (literal b) e = turned_number a.0 b.0 e
turned (literal a) (named b) e = absurd cc
turned (named a) (literal b) e = refl
turned (named a) (named b) e = turned_number a.0 b.0 e

joins : (a b c : DefId) → definition_cmp a b ≡ Less → definition_cmp b c ≡ Less → definition_cmp a c ≡ Less
joins (literal a) (literal b) (literal c) p q = nat_cmp_total.trans a.0 b.0 c.0 p q
joins (literal a) b (named c) p q = refl
joins (literal a) (named b) (literal c) p q = absurd cc
joins (named a) (literal b) (literal c) p q = absurd cc
joins (named a) (literal b) (named c) p q = absurd cc
joins (named a) (named b) (literal c) p q = absurd cc
joins (named a) (named b) (named c) p q = nat_cmp_total.trans a.0 b.0 c.0 p q

same : (a b : DefId) → definition_cmp a b ≡ Equal → a ≡ b
same (literal a) (literal b) e = ap (λ n. literal (let s : SymbolId = record { 0 = n } in s)) (exact_unsigned a.0 b.0 e)
same (literal a) (named b) e = absurd cc
same (named a) (literal b) e = absurd cc
same (named a) (named b) e = ap (λ n. named (let r : RuleId = record { 0 = n } in r)) (exact_unsigned a.0 b.0 e)

-- ---- one mark more

module _ (grammar : Grammar) (marks : List Mark) (m : Mark) where
  ends_push : (d : DefId) → HasLast grammar (Set (marks ++ m ∷ [])) d → HasLast grammar (Set marks) d ⊎ ((m.def ≡ d) × IsLastMark grammar m)
  ends_push d e = elim (Contains-push_cases marks m e.0 e.1) [
    | inl c ↦ inl (e.0, c, e.2, e.3)
    | inr k ↦ inr (ap (λ (x : Mark). x.def) k ∙ e.2, subst (IsLastMark grammar) (sym k) e.3)
  ]

  ends_left : (d : DefId) → HasLast grammar (Set marks) d → HasLast grammar (Set (marks ++ m ∷ [])) d
  ends_left d e = (e.0, Contains-append_left marks (m ∷ []) e.0 e.1, e.2, e.3)

  ends_here : IsLastMark grammar m → HasLast grammar (Set (marks ++ m ∷ [])) m.def
  ends_here last = (m, Contains-push marks m, refl, last)

  same_push : (w : Option DefId) → IsFirstEnded grammar marks w → (IsLastMark grammar m → ⊥) → IsFirstEnded grammar (marks ++ m ∷ []) w
  same_push None none apart = λ d e. elim (ends_push d e) [ inl k ↦ none d k | inr k ↦ apart k.1 ]
  same_push (Some w) a apart = record {
    ends = ends_left w a.ends;
    first = λ other e. elim (ends_push other e) [ inl k ↦ a.first other k | inr k ↦ absurd (apart k.1) ];
  }

  more_push : (w : Option DefId) → IsFirstEnded grammar marks w → IsLastMark grammar m → Accepts grammar (Set (marks ++ m ∷ [])) (first_definition w m.def)
  more_push None none last = record {
    ends = ends_here last;
    first = λ other e. elim (ends_push other e) [ inl k ↦ absurd (none other k) | inr k ↦ inl (sym k.0) ];
  }
  more_push (Some w) a last = by (definition_cmp w m.def) refl where
    by : (o : Ordering) → definition_cmp w m.def ≡ o → Accepts grammar (Set (marks ++ m ∷ [])) (if is_lt o then w else m.def)
    by Less less = record {
      ends = ends_left w a.ends;
      first = λ other e. elim (ends_push other e) [ inl k ↦ a.first other k | inr k ↦ inr (subst (λ d. definition_cmp w d ≡ Less) k.0 less) ];
    }
    by Equal equal = record {
      ends = ends_here last;
      first = λ other e. elim (ends_push other e) [
        | inl k ↦ subst (λ d. (other ≡ d) ⊎ (definition_cmp d other ≡ Less)) (same w m.def equal) (a.first other k)
        | inr k ↦ inl (sym k.0)
      ];
    }
    by Greater greater = record {
      ends = ends_here last;
      first = λ other e. elim (ends_push other e) [
        | inl k ↦ elim (a.first other k) [
          | inl is ↦ inr (subst (λ d. definition_cmp m.def d ≡ Less) (sym is) (turned w m.def greater))
          | inr less ↦ inr (joins m.def w other (turned w m.def greater) less)
        ]
        | inr k ↦ inl (sym k.0)
      ];
    }

pub ended_same : (grammar : Grammar) (marks : List Mark) (i : ℕ) (d : Mark) (w : Option DefId) → i < length marks → IsFirstEnded grammar (take i marks) w
    → (IsLastMark grammar (get_or marks i d) → ⊥)
    → IsFirstEnded grammar (take (i + 1) marks) w
ended_same grammar marks i d w within a apart = subst (λ ms. IsFirstEnded grammar ms w) (sym (take_more marks i d within))
    (same_push grammar (take i marks) (get_or marks i d) w a apart)

pub ended_more : (grammar : Grammar) (marks : List Mark) (i : ℕ) (d : Mark) (w : Option DefId) → i < length marks → IsFirstEnded grammar (take i marks) w
    → IsLastMark grammar (get_or marks i d)
    → IsFirstEnded grammar (take (i + 1) marks) (Some (first_definition w (get_or marks i d).def))
ended_more grammar marks i d w within a last =
    subst (λ ms. Accepts grammar (Set ms) (first_definition w (get_or marks i d).def)) (sym (take_more marks i d within))
    (more_push grammar (take i marks) (get_or marks i d) w a last)

pub ended_all : (grammar : Grammar) (marks : List Mark) (i : ℕ) (w : Option DefId) → length marks ≤ i → IsFirstEnded grammar (take i marks) w
    → IsFirstEnded grammar marks w
ended_all grammar marks i w whole a = subst (λ ms. IsFirstEnded grammar ms w) (take_all i marks whole) a

-- ---- last positions

pub any_has : (xs : List ℕ) (n : ℕ) → list_any (λ y. nat_eq y n) xs ≡ has xs n
any_has [] n = refl
any_has (x ∷ xs) n = ap (λ b. nat_eq x n || b) (any_has xs n)
