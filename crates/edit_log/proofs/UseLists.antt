-- Counts of symbols, and what is live by them.
use Rattle.std.proofs.Common.{◌≡◌, ℕ, ◌+◌, ◌-◌, ◌<◌, ◌≤◌, ◌⊎◌, inl, inr, ◌==◌, List, [], ◌∷◌, ◌++◌, length, get_or, set, take, Bool, true, false, cond}
use Rattle.std.proofs.Common.{slice_get, Option, Some, None, option_map, refl, sym, ◌∙◌, ap, subst, arith, Contains}
use Rattle.std.specs.Option.{is_some}
use Rattle.std.proofs.lemmas.Bool.{cases_eq, cases_lt, eq-eqb, eqb-true}
use Rattle.std.proofs.lemmas.List.{get_or-set_same, get_or-set_other, take_more, length-take, length-set}
use Rattle.std.proofs.lemmas.List.Sums.{sum_by-append, sum_by-take-le, count_by-le-length}
use Rattle.std.proofs.lemmas.List.Elements.{Contains-append_left, Contains-push, Contains-push_cases}
use Rattle.std.specs.List.Sorted.{IsStrictlySortedBy}
use Rattle.std.proofs.lemmas.Option.{slice_get-get_or, slice_get_past, get_or_from_slice_get, same_Some}
use Rattle.forest.specs.declared.symbols.SymbolId.{SymbolId}
use Rattle.forest.specs.declared.rules.RuleId.{RuleId}
use Rattle.regex_ast.specs.Positions.{Table}
use Rattle.edit_log.specs.declared.definitions.DefId.{DefId}
use Rattle.edit_log.specs.declared.definitions.DefId.TheVariants.{Literal as literal, Named as named}
use Rattle.edit_log.specs.Lookups.{ListsDefinitions}
use Rattle.edit_log.specs.Lists.{occurrences, HasLiteral, IsLiveBy, IsLastUse}

-- ---- literals

pub has_literal : (literals : List (Option Table)) (place : ℕ) (o : Option Table) → slice_get literals place ≡ Some o → is_some o ≡ true
    → HasLiteral literals place
has_literal literals place None is some = absurd cc
has_literal literals place (Some table) is some = (table, is)

pub no_literal : (literals : List (Option Table)) (place : ℕ) (o : Option Table) → slice_get literals place ≡ Some o → is_some o ≡ false
    → HasLiteral literals place → ⊥
no_literal literals place o is none (table, there) =
    let same : o ≡ Some table = same_Some o (Some table) (sym is ∙ there) in
    let some : is_some o ≡ true = ap is_some same in
    cc

-- ---- definitions

pub same_symbol : (a b : SymbolId) → a.0 ≡ b.0 → a ≡ b
same_symbol a b e = ap (λ n. let s : SymbolId = record { 0 = n } in s) e

pub decide_literal : (d : DefId) (symbol : SymbolId) → (d ≡ literal symbol) ⊎ (d ≡ literal symbol → ⊥)
decide_literal (literal s) symbol = elim (cases_eq s.0 symbol.0) [
  | inl e ↦ inl (ap literal (same_symbol s symbol e))
  | inr other ↦ inr (λ e. let same : s ≡ symbol = cc in other (ap (λ (one : SymbolId). one.0) same))
]
decide_literal (named n) symbol = inr (λ e. cc)

-- ---- one count changes

pub record Changes (uses new : List ℕ) (place m n : ℕ) : Type 0 where
  pub before : slice_get uses place ≡ Some m
  pub after : slice_get new place ≡ Some n
  pub others : (k : ℕ) → (k ≡ place → ⊥) → slice_get new k ≡ slice_get uses k

pub changes_set : (uses : List ℕ) (place n : ℕ) → place < length uses → Changes uses (set uses place n) place (get_or uses place 0) n
changes_set uses place n within = record {
  before = slice_get-get_or uses place 0 within;
  after = slice_get-get_or (set uses place n) place 0 (omega (arith, length-set uses place n)) ∙ ap Some (get_or-set_same uses place n 0 within);
  others = λ k other. elim (cases_lt k (length uses)) [
    | inl less ↦ slice_get-get_or (set uses place n) k 0 (omega (arith, length-set uses place n)) ∙ ap Some (get_or-set_other uses place k n 0 other) ∙ sym
        (slice_get-get_or uses k 0 less)
    | inr more ↦ slice_get_past (set uses place n) k (omega (arith, length-set uses place n)) ∙ sym (slice_get_past uses k more)
  ];
}

changes_back : (uses new : List ℕ) (place m n : ℕ) → Changes uses new place m n → Changes new uses place n m
changes_back uses new place m n is = record { before = is.after; after = is.before; others = λ k other. sym (is.others k other) }

module _ (literals : List (Option Table)) (numbers : List RuleId) (symbol : SymbolId) where
  carries : (uses new : List ℕ) (m n : ℕ) → Changes uses new symbol.0 m n → (d : DefId) → (d ≡ literal symbol → ⊥) → IsLiveBy literals uses numbers d
      → IsLiveBy literals new numbers d
  carries uses new m n is (literal s) other (has, (count, there, some)) =
      (has, (count, is.others s.0 (λ e. other (ap literal (same_symbol s symbol e))) ∙ there, some))
  carries uses new m n is (named number) other there = there

  lives : (uses : List ℕ) (n : ℕ) → HasLiteral literals symbol.0 → slice_get uses symbol.0 ≡ Some n → 0 < n → (d : DefId) → d ≡ literal symbol
      → IsLiveBy literals uses numbers d
  lives uses n has there some d e = subst (IsLiveBy literals uses numbers) (sym e) (has, (n, there, some))

  -- the first use of a literal
  pub live_started : (uses new : List ℕ) (m n : ℕ) (old after : List DefId) → Changes uses new symbol.0 m n → HasLiteral literals symbol.0 → 0 < n
      → ListsDefinitions (IsLiveBy literals uses numbers) old → ListsDefinitions (λ d. Contains old d ⊎ (d ≡ literal symbol)) after
      → ListsDefinitions (IsLiveBy literals new numbers) after
  live_started uses new m n old after is has some lists added = record {
    order = added.order;
    members = λ d. (
      λ c. elim (decide_literal d symbol) [
        | inl e ↦ lives new n has is.after some d e
        | inr other ↦ elim ((added.members d).0 c) [
          | inl there ↦ carries uses new m n is d other ((lists.members d).0 there)
          | inr e ↦ absurd (other e)
        ]
      ],
      λ live. elim (decide_literal d symbol) [
        | inl e ↦ (added.members d).1 (inr e)
        | inr other ↦ (added.members d).1 (inl ((lists.members d).1 (carries new uses n m (changes_back uses new symbol.0 m n is) d other live)))
      ],
    );
  }

  -- one use more or less of a literal that is used before and after, or of what is no literal
  pub live_stays : (uses new : List ℕ) (m n : ℕ) (old : List DefId) → Changes uses new symbol.0 m n → (HasLiteral literals symbol.0 → (0 < m) × (0 < n))
      → ListsDefinitions (IsLiveBy literals uses numbers) old → ListsDefinitions (IsLiveBy literals new numbers) old
  live_stays uses new m n old is used lists = record {
    order = lists.order;
    members = λ d. (
      λ c. let live = (lists.members d).0 c in elim (decide_literal d symbol) [
        | inl e ↦ let itself : IsLiveBy literals uses numbers (literal symbol) = subst (IsLiveBy literals uses numbers) e live in
            lives new n itself.0 is.after (used itself.0).1 d e
        | inr other ↦ carries uses new m n is d other live
      ],
      λ live. (lists.members d).1 (elim (decide_literal d symbol) [
        | inl e ↦ let itself : IsLiveBy literals new numbers (literal symbol) = subst (IsLiveBy literals new numbers) e live in
            lives uses m itself.0 is.before (used itself.0).0 d e
        | inr other ↦ carries new uses n m (changes_back uses new symbol.0 m n is) d other live
      ]),
    );
  }

  -- the last use of a literal goes
  pub live_ended : (uses new : List ℕ) (m n : ℕ) (old after : List DefId) → Changes uses new symbol.0 m n → n ≡ 0
      → ListsDefinitions (IsLiveBy literals uses numbers) old → ListsDefinitions (λ d. Contains old d × (d ≡ literal symbol → ⊥)) after
      → ListsDefinitions (IsLiveBy literals new numbers) after
  live_ended uses new m n old after is ended lists dropped = record {
    order = dropped.order;
    members = λ d. (
      λ c. let kept = (dropped.members d).0 c in carries uses new m n is d kept.1 ((lists.members d).0 kept.0),
      λ live.
          let other : d ≡ literal symbol → ⊥ = λ e.
          let itself : IsLiveBy literals new numbers (literal symbol) = subst (IsLiveBy literals new numbers) e live in
          none itself.1.0 itself.1.1 itself.1.2 in
          (dropped.members d).1 ((lists.members d).1 (carries new uses n m (changes_back uses new symbol.0 m n is) d other live), other),
    );
  }
    where
      none : (count : ℕ) → slice_get new symbol.0 ≡ Some count → 0 < count → ⊥
      none count there some = let same : count ≡ n = cc (is.after) in absurd (omega arith)

-- a use that is not the first, or of what is no literal
pub live_more : (literals : List (Option Table)) (numbers : List RuleId) (symbol : SymbolId) (uses new : List ℕ) (m : ℕ) (live : List DefId)
    → Changes uses new symbol.0 m (m + 1)
    → ((HasLiteral literals symbol.0 × (slice_get new symbol.0 ≡ Some 1)) → ⊥) → ListsDefinitions (IsLiveBy literals uses numbers) live
    → ListsDefinitions (IsLiveBy literals new numbers) live
live_more literals numbers symbol uses new m live is other lists = live_stays literals numbers symbol uses new m (m + 1) live is
    (λ has. (some has (cases_eq m 0), omega arith)) lists
  where
    some : HasLiteral literals symbol.0 → (m ≡ 0) ⊎ (m ≡ 0 → ⊥) → 0 < m
    some has (inl e) = absurd (other (has, is.after ∙ ap (λ n. Some (n + 1)) e))
    some has (inr e) = omega (arith, e)

-- and a use that is not the last
pub live_less : (literals : List (Option Table)) (numbers : List RuleId) (symbol : SymbolId) (uses new : List ℕ) (m : ℕ) (live : List DefId)
    → Changes uses new symbol.0 m (m - 1) → 0 < m
    → ((HasLiteral literals symbol.0 × (slice_get new symbol.0 ≡ Some 0)) → ⊥) → ListsDefinitions (IsLiveBy literals uses numbers) live
    → ListsDefinitions (IsLiveBy literals new numbers) live
live_less literals numbers symbol uses new m live is used other lists = live_stays literals numbers symbol uses new m (m - 1) live is
    (λ has. (used, some has (cases_eq (m - 1) 0))) lists
  where
    some : HasLiteral literals symbol.0 → (m - 1 ≡ 0) ⊎ (m - 1 ≡ 0 → ⊥) → 0 < m - 1
    some has (inl e) = absurd (other (has, is.after ∙ ap Some e))
    some has (inr e) = omega (arith, e)

-- ---- counts along a list

-- the symbol at this place counts once, and no other
pub counted_one : (symbol : SymbolId) (place : ℕ) → symbol.0 ≡ place → occurrences (record { 0 = place }) (symbol ∷ []) ≡ 1
counted_one symbol place e = rw (eq-eqb symbol.0 place e) refl

pub counted_other : (symbol : SymbolId) (place : ℕ) → (symbol.0 ≡ place → ⊥) → occurrences (record { 0 = place }) (symbol ∷ []) ≡ 0
counted_other symbol place other = by (symbol.0 == place) refl
  where
    by : (same : Bool) → (symbol.0 == place) ≡ same → 0 + cond same 1 0 ≡ 0
    by true is = absurd (other (eqb-true symbol.0 place is))
    by false is = refl

pub counted_more : (symbol : SymbolId) (parts : List SymbolId) (i : ℕ) (d : SymbolId) → i < length parts
    → occurrences symbol (take (i + 1) parts) ≡ occurrences symbol (take i parts) + occurrences symbol (get_or parts i d ∷ [])
counted_more symbol parts i d within =
    ap (occurrences symbol) (take_more parts i d within) ∙ sum_by-append (λ p. cond (p.0 == symbol.0) 1 0) (take i parts) (get_or parts i d ∷ [])

pub counted_before : (symbol : SymbolId) (parts : List SymbolId) (i : ℕ) → occurrences symbol (take i parts) ≤ occurrences symbol parts
counted_before symbol parts i = sum_by-take-le (λ p. cond (p.0 == symbol.0) 1 0) parts i

-- a count that was changed
pub count_now : (f : ℕ → ℕ) (old now : List ℕ) (place : ℕ) → slice_get now place ≡ option_map f (slice_get old place) → place < length old
    → get_or now place 0 ≡ f (get_or old place 0)
count_now f old now place is within = get_or_from_slice_get now place (f (get_or old place 0)) 0 (is ∙ ap (option_map f) (slice_get-get_or old place 0 within))

pub counted_at_most : (symbol : SymbolId) (parts : List SymbolId) (i : ℕ) → occurrences symbol (take i parts) ≤ i
counted_at_most symbol parts i = omega (arith, count_by-le-length (λ (p : SymbolId). p.0 == symbol.0) (take i parts), length-take i parts)

-- a list of counts with those of a list added
pub added_more : (old now new : Option ℕ) (a b c : ℕ) → c ≡ a + b → now ≡ option_map (λ n. n + a) old → new ≡ option_map (λ n. n + b) now
    → new ≡ option_map (λ n. n + c) old
added_more None now new a b c sum is more = rw (more, is) refl
added_more (Some m) now new a b c sum is more = rw (more, is) (ap Some (omega arith))

pub taken_more : (old now new : Option ℕ) (a b c : ℕ) → c ≡ a + b → now ≡ option_map (λ n. n - a) old → new ≡ option_map (λ n. n - b) now
    → new ≡ option_map (λ n. n - c) old
taken_more None now new a b c sum is more = rw (more, is) refl
taken_more (Some m) now new a b c sum is more = rw (more, is) (ap Some (omega arith))

-- one count changes by one
pub one_count : (f : ℕ → ℕ → ℕ) → ((n : ℕ) → f n 0 ≡ n) → (uses : List ℕ) (symbol : SymbolId) → symbol.0 < length uses → (place : ℕ)
    → slice_get (set uses symbol.0 (f (get_or uses symbol.0 0) 1)) place ≡ option_map (λ n. f n (occurrences (record { 0 = place }) (symbol ∷ [])))
    (slice_get uses place)
one_count f none uses symbol within place =
    let m = get_or uses symbol.0 0 in
    let is = changes_set uses symbol.0 (f m 1) within in
    elim (cases_eq symbol.0 place) [
      | inl e ↦
          let old : slice_get uses place ≡ Some m = subst (λ p. slice_get uses p ≡ Some m) e is.before in
          let new : slice_get (set uses symbol.0 (f m 1)) place ≡ Some (f m 1) = subst (λ p. slice_get (set uses symbol.0 (f m 1)) p
          ≡ Some (f m 1)) e is.after in
          new ∙ sym (ap (option_map (λ n. f n (occurrences (record { 0 = place }) (symbol ∷ [])))) old ∙ ap (λ k. Some (f m k)) (counted_one symbol place e))
      | inr other ↦ is.others place (λ e. other (sym e)) ∙ same (slice_get uses place) (occurrences (record { 0 = place }) (symbol ∷ []))
          (counted_other symbol place other)
    ]
  where
    same : (o : Option ℕ) (k : ℕ) → k ≡ 0 → o ≡ option_map (λ n. f n k) o
    same None k e = refl
    same (Some n) k e = ap Some (sym (ap (f n) e ∙ none n))

-- ---- parts of a right side

-- the literal is one of these
abbrev pub IsAmong : List SymbolId → DefId → Type 0
IsAmong parts (literal symbol) = Contains parts symbol
IsAmong parts (named number) = ⊥

among_more : (done : List SymbolId) (symbol : SymbolId) (d : DefId) → IsAmong done d → IsAmong (done ++ symbol ∷ []) d
among_more done symbol (literal s) c = Contains-append_left done (symbol ∷ []) s c
among_more done symbol (named n) c = absurd c

among_cases : (done : List SymbolId) (symbol : SymbolId) (d : DefId) → IsAmong (done ++ symbol ∷ []) d → IsAmong done d ⊎ (d ≡ literal symbol)
among_cases done symbol (literal s) c = elim (Contains-push_cases done symbol s c) [ inl there ↦ inl there | inr e ↦ inr (ap literal (sym e)) ]
among_cases done symbol (named n) c = absurd c

module _ (literals : List (Option Table)) (uses : List ℕ) (right : List SymbolId) (i : ℕ) (none : SymbolId) (within : i < length right) where
  among_next : (d : DefId) → IsAmong (take i right) d → IsAmong (take (i + 1) right) d
  among_next d c = subst (λ parts. IsAmong parts d) (sym (take_more right i none within)) (among_more (take i right) (get_or right i none) d c)

  among_itself : (d : DefId) → d ≡ literal (get_or right i none) → IsAmong (take (i + 1) right) d
  among_itself d e = subst (λ parts. IsAmong parts d) (sym (take_more right i none within)) (subst (IsAmong (take i right ++ get_or right i none ∷ [])) (sym e)
      (Contains-push (take i right) (get_or right i none)))

  among_before : (d : DefId) → IsAmong (take (i + 1) right) d → IsAmong (take i right) d ⊎ (d ≡ literal (get_or right i none))
  among_before d c = among_cases (take i right) (get_or right i none) d (subst (λ parts. IsAmong parts d) (take_more right i none within) c)

  -- one more part, all uses of which stand here
  pub ended_more : (old after : List DefId) → IsLastUse literals uses right (literal (get_or right i none))
      → ListsDefinitions (λ d. IsLastUse literals uses right d × IsAmong (take i right) d) old
      → ListsDefinitions (λ d. Contains old d ⊎ (d ≡ literal (get_or right i none))) after
      → ListsDefinitions (λ d. IsLastUse literals uses right d × IsAmong (take (i + 1) right) d) after
  ended_more old after is lists added = record {
    order = added.order;
    members = λ d. (
      λ c. elim ((added.members d).0 c) [
        | inl there ↦ let known = (lists.members d).0 there in (known.0, among_next d known.1)
        | inr e ↦ (subst (IsLastUse literals uses right) (sym e) is, among_itself d e)
      ],
      λ w. (added.members d).1 (elim (among_before d w.1) [ inl there ↦ inl ((lists.members d).1 (w.0, there)) | inr e ↦ inr e ]),
    );
  }

  -- one more part that is no literal, or is used elsewhere
  pub ended_same : (old : List DefId) → (IsLastUse literals uses right (literal (get_or right i none)) → ⊥)
      → ListsDefinitions (λ d. IsLastUse literals uses right d × IsAmong (take i right) d) old
      → ListsDefinitions (λ d. IsLastUse literals uses right d × IsAmong (take (i + 1) right) d) old
  ended_same old other lists = record {
    order = lists.order;
    members = λ d. (
      λ c. let known = (lists.members d).0 c in (known.0, among_next d known.1),
      λ w. elim (among_before d w.1) [ inl there ↦ (lists.members d).1 (w.0, there) | inr e ↦ absurd (other (subst (IsLastUse literals uses right) e w.0)) ],
    );
  }

-- before the first part
pub ended_none : (literals : List (Option Table)) (uses : List ℕ) (right : List SymbolId)
    → ListsDefinitions (λ d. IsLastUse literals uses right d × IsAmong [] d) []
unfolding IsStrictlySortedBy
ended_none literals uses right = record { order = tt; members = λ d. (λ (k, less, is). absurd (omega arith), λ w. absurd (none d w.1)) }
  where
    none : (d : DefId) → IsAmong [] d → ⊥
    none (literal s) (k, less, is) = absurd (omega arith)
    none (named n) c = c

-- behind the last
pub ended_all : (literals : List (Option Table)) (uses : List ℕ) (right : List SymbolId) (gone : List DefId)
    → ListsDefinitions (λ d. IsLastUse literals uses right d × IsAmong right d) gone
    → ListsDefinitions (IsLastUse literals uses right) gone
ended_all literals uses right gone lists = record {
  order = lists.order;
  members = λ d. (
    λ c. ((lists.members d).0 c).0,
    λ last. (lists.members d).1 (
      last,
      among d last,
    ),
  );
}
  where
    among : (d : DefId) → IsLastUse literals uses right d → IsAmong right d
    among (literal s) last = last.0
    among (named n) last = last

-- what holds of each part so far, and of the next
pub each_more : (P : SymbolId → Type 0) (parts : List SymbolId) (i : ℕ) (d : SymbolId) → i < length parts
    → ((part : SymbolId) → Contains (take i parts) part → P part) → P (get_or parts i d)
    → (part : SymbolId) → Contains (take (i + 1) parts) part → P part
each_more P parts i d within each next part c =
    elim (Contains-push_cases (take i parts) (get_or parts i d) part (subst (λ ps. Contains ps part) (take_more parts i d within) c)) [
      | inl there ↦ each part there
      | inr e ↦ subst P e next
    ]
