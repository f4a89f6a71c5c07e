-- Ranges as bytes come to them, one by one or all those at once that lead to the same marks.
use Rattle.std.proofs.Common.{◌≡◌, ℕ, zero, suc, ◌+◌, ◌-◌, ◌<◌, ◌≤◌, ◌⊎◌, inl, inr, List, [], ◌∷◌, ◌++◌, length, get_or, slice_get, slice_set}
use Rattle.std.proofs.Common.{Option, Some, None, refl, sym, ap, ◌∙◌, subst, arith, append_assoc, length-append, Contains}
use Rattle.std.proofs.lemmas.Bool.{cases_lt}
use Rattle.std.proofs.lemmas.List.Elements.{Contains-append_left, Contains-append_right, Contains-append_cases}
use Rattle.std.proofs.lemmas.Option.{slice_get-get_or}
use Rattle.forest.proofs.Ascending.{contains_here, contains_there, contains_cases}
use Rattle.edit_log.specs.History.{Grammar}
use Rattle.isg_states.specs.declared.mark.Mark.{Mark}
use Rattle.isg_states.specs.declared.scan_key.ScanKey.{ScanKey}
use Rattle.isg_states.specs.declared.scan_key.ScanKey.TheVariants.{Start, Set}
use Rattle.isg_states.specs.Marks.{ListsMarks}
use Rattle.isg_states.specs.Expansion.{Range, LeadsTo, AreApart, IsScanExpansionOf}
use Rattle.isg_states.specs.Candidates.{Adjoins, IsWithRange, TellsRange, TellsBelow}
use Rattle.isg_states.proofs.MarkLists.{each_of, all_of, contains_none}

same_set : (a b : List Mark) (k : ScanKey) → k ≡ Set a → k ≡ Set b → a ≡ b
same_set a b k e f = cc

-- ---- the last of a list

two_ends : {X : Type 0} (xs ys : List X) (x y : X) → xs ++ x ∷ [] ≡ ys ++ y ∷ [] → (xs ≡ ys) × (x ≡ y)
two_ends [] [] x y e = (refl, cc)
two_ends [] (z ∷ []) x y e = absurd cc
two_ends [] (z ∷ w ∷ ys) x y e = absurd cc
two_ends (z ∷ []) [] x y e = absurd cc
two_ends (z ∷ w ∷ xs) [] x y e = absurd cc
two_ends (z ∷ xs) (w ∷ ys) x y e =
    let heads : z ≡ w = cc in let tails : xs ++ x ∷ [] ≡ ys ++ y ∷ [] = cc in
    let rest = two_ends xs ys x y tails in
    (ap (λ t. z ∷ t) rest.0 ∙ ap (λ h. h ∷ ys) heads, rest.1)

apart_push : (ranges : List Range) (next : Range) → AreApart ranges → ((range : Range) → Contains ranges range → range.1 < next.0)
    → AreApart (ranges ++ next ∷ [])
apart_push [] next apart below = (tt, tt)
apart_push (r ∷ ranges) next apart below = (
  all_of _ (ranges ++ next ∷ []) (λ x c. elim (Contains-append_cases ranges (next ∷ []) x c) [
    | inl d ↦ each_of _ ranges apart.0 x d
    | inr d ↦ elim (contains_cases next [] x d) [
      | inl e ↦ subst (λ (y : Range). r.1 < y.0) e (below r (contains_here r ranges))
      | inr none ↦
          absurd (contains_none x none)
    ]
  ]),
  apart_push ranges next apart.1 (λ x c. below x (contains_there r ranges x c)),
)

apart_before : (before : List Range) (last : Range) → AreApart (before ++ last ∷ []) → AreApart before × ((range : Range) → Contains before range
    → range.1 < last.0)
apart_before [] last apart = (tt, λ range c. absurd (contains_none range c))
apart_before (r ∷ before) last apart =
    let rest = apart_before before last apart.1 in (
      (all_of _ before (λ x c. each_of _ _ apart.0 x (Contains-append_left before (last ∷ []) x c)), rest.0),
      λ range c. elim (contains_cases r before range c) [
        | inl e ↦ subst (λ (y : Range). y.1 < last.0) e (each_of _ _ apart.0 last (Contains-append_right before (last ∷ []) last (contains_here last [])))
        | inr d ↦ rest.1 range d
      ],
    )

-- two neighbours stand before the last element, or the second is that
record AtEnd (ranges before : List Range) (last one next : Range) : Type 0 where
  same : ranges ≡ before ++ one ∷ []
  end : next ≡ last

neighbours : (ranges : List Range) (last : Range) (before after : List Range) (one next : Range) → ranges ++ last ∷ [] ≡ before ++ one ∷ next ∷ after
    → ((rest : List Range) × (ranges ≡ before ++ one ∷ next ∷ rest)) ⊎ AtEnd ranges before last one next
neighbours [] last [] after one next e = absurd cc
neighbours [] last (b ∷ []) after one next e = absurd cc
neighbours [] last (b ∷ c ∷ before) after one next e = absurd cc
neighbours (r ∷ []) last [] [] one next e =
    let a : r ≡ one = cc in let b : last ≡ next = cc in inr (record { same = ap (λ x. x ∷ []) a; end = sym b })
neighbours (r ∷ []) last [] (x ∷ after) one next e = absurd cc
neighbours (r ∷ s ∷ ranges) last [] after one next e =
    let a : r ≡ one = cc in let b : s ≡ next = cc in inl (ranges, ap (λ x. x ∷ s ∷ ranges) a ∙ ap (λ x. one ∷ x ∷ ranges) b)
neighbours (r ∷ ranges) last (b ∷ before) after one next e =
    let heads : r ≡ b = cc in let tails : ranges ++ last ∷ [] ≡ before ++ one ∷ next ∷ after = cc in
    elim (neighbours ranges last before after one next tails) [
      | inl k ↦ inl (k.0, ap (λ x. x ∷ ranges) heads ∙ ap (λ t. b ∷ t) k.1)
      | inr k ↦ inr (record { same = ap (λ x. x ∷ ranges) heads ∙ ap (λ t. b ∷ t) k.same; end = k.end })
    ]

pub last_of : (ranges : List Range) (x : Range) → slice_get ranges (length ranges - 1) ≡ Some x → (before : List Range) × (ranges ≡ before ++ x ∷ [])
last_of [] x e = absurd cc
last_of (y ∷ []) x e = let same : y ≡ x = cc in ([], ap (λ r. r ∷ []) same)
last_of (y ∷ z ∷ ranges) x e =
    let down : length (y ∷ z ∷ ranges) - 1 ≡ suc (length (z ∷ ranges) - 1) = omega arith in
    let r = last_of (z ∷ ranges) x (subst (λ n. slice_get (y ∷ z ∷ ranges) n ≡ Some x) down e) in
    (y ∷ r.0, ap (λ t. y ∷ t) r.1)

-- the last range ends before the byte, and leads to a key
pub goes_on_key : (ranges : List Range) (byte : ℕ) (last : Range) (key marks : List Mark) → slice_get ranges (length ranges - 1) ≡ Some last
    → last.2 ≡ Set key → last.1 + 1 ≡ byte
    → (key ≡ marks → Adjoins ranges byte marks) × (Adjoins ranges byte marks → key ≡ marks)
goes_on_key ranges byte last key marks there is touch =
    let r = last_of ranges last there in (
      λ e. (r.0, last.0, last.1, r.1 ∙ ap (λ k. r.0 ++ (last.0, last.1, k) ∷ []) (is ∙ ap (λ m. Set m) e), touch),
      λ g. (let ends = two_ends r.0 g.0 last (g.1, g.2, Set marks) (sym r.1 ∙ g.3) in same_set key marks last.2 is (ap (λ (x : Range). x.2) ends.1)),
    )

-- it ends elsewhere
pub goes_on_not : (ranges : List Range) (byte : ℕ) (last : Range) (marks : List Mark) → slice_get ranges (length ranges - 1) ≡ Some last
    → (last.1 + 1 ≡ byte → ⊥) → Adjoins ranges byte marks → ⊥
goes_on_not ranges byte last marks there apart g =
    let r = last_of ranges last there in
    let ends = two_ends r.0 g.0 last (g.1, g.2, Set marks) (sym r.1 ∙ g.3) in
    apart (ap (λ (x : Range). x.1 + 1) ends.1 ∙ g.4)

-- it leads to no set
pub goes_on_start : (ranges : List Range) (byte : ℕ) (last : Range) (marks : List Mark) → slice_get ranges (length ranges - 1) ≡ Some last → last.2 ≡ Start
    → Adjoins ranges byte marks → ⊥
goes_on_start ranges byte last marks there is g =
    let r = last_of ranges last there in
    let ends = two_ends r.0 g.0 last (g.1, g.2, Set marks) (sym r.1 ∙ g.3) in
    let key : last.2 ≡ Set marks = ap (λ (x : Range). x.2) ends.1 in
    start_or_set last.2 marks is key where
      start_or_set : (k : ScanKey) (m : List Mark) → k ≡ Start → k ≡ Set m → ⊥
      start_or_set k m e f = absurd cc

-- there is none
pub goes_on_none : (ranges : List Range) (byte : ℕ) (marks : List Mark) → None ≡ slice_get ranges (length ranges - 1) → Adjoins ranges byte marks → ⊥
goes_on_none ranges byte marks none g =
    let len : length ranges ≡ length g.0 + 1 = ap length g.3 ∙ length-append g.0 ((g.1, g.2, Set marks) ∷ []) in
    let within : length ranges - 1 < length ranges = omega arith in
    no_some (slice_get ranges (length ranges - 1)) (get_or ranges (length ranges - 1) (g.1, g.2, Set marks)) (sym none)
    (slice_get-get_or ranges (length ranges - 1) (g.1, g.2, Set marks) within) where
      no_some : (o : Option Range) (x : Range) → o ≡ None → o ≡ Some x → ⊥
      no_some o x e f = absurd cc

set_last : (before : List Range) (last next : Range) (k : ℕ) → k ≡ length before → slice_set (before ++ last ∷ []) k next ≡ before ++ next ∷ []
set_last [] last next k e = subst (λ n. slice_set (last ∷ []) n next ≡ next ∷ []) (sym e) refl
set_last (b ∷ before) last next k e = subst (λ n. slice_set (b ∷ (before ++ last ∷ [])) n next ≡ b ∷ (before ++ next ∷ [])) (sym e)
    (ap (λ t. b ∷ t) (set_last before last next (length before) refl))

get_last : (before : List Range) (last d : Range) (k : ℕ) → k ≡ length before → get_or (before ++ last ∷ []) k d ≡ last
get_last [] last d k e = subst (λ n. get_or (last ∷ []) n d ≡ last) (sym e) refl
get_last (b ∷ before) last d k e = subst (λ n. get_or (b ∷ (before ++ last ∷ [])) n d ≡ last) (sym e) (get_last before last d (length before) refl)

-- the last range goes on in place
pub set_goes_on : (ranges : List Range) (low high : ℕ) (marks : List Mark) (k : ℕ) (last : Range) → Adjoins ranges low marks → k ≡ length ranges - 1
    → last ≡ get_or ranges k last
    → IsWithRange ranges low high marks (slice_set ranges k (last.0, high, last.2))
set_goes_on ranges low high marks k last g place is =
    let here : Range = (g.1, g.2, Set marks) in
    let len : length ranges ≡ length g.0 + 1 = ap length g.3 ∙ length-append g.0 (here ∷ []) in
    let at : k ≡ length g.0 = omega arith in
    let same : last ≡ here = is ∙ ap (λ rs. get_or rs k last) g.3 ∙ get_last g.0 here last k at in
    inl (
      g.0,
      g.1,
      g.2,
      g.3,
      g.4,
      ap (λ rs. slice_set rs k (last.0, high, last.2)) g.3 ∙ set_last g.0 here (last.0, high, last.2) k at ∙ ap
          (λ (r : Range). g.0 ++ (r.0, high, r.2) ∷ []) same,
    )

module _ (led : ℕ → List Mark) where
  range_upto : (m n : ℕ) (range : Range) → m ≤ n → TellsRange led m range → TellsRange led n range
  range_upto m n range up t = let below = t.below in
      record { some = t.some; below = omega arith; marks = t.marks; is = t.is; leads = t.leads; somewhere = t.somewhere }

  pub tells_none : (ranges : List Range) → ranges ≡ [] → TellsBelow led 0 ranges
  tells_none ranges e = subst (TellsBelow led 0) (sym e) (record {
    each = λ range c. absurd (contains_none range c);
    whole = λ byte small some. absurd (omega arith);
    apart = tt;
    joined = λ before after one next k touch keys. absurd (nothing before after one next k);
  }) where
    nothing : (before after : List Range) (one next : Range) → [] ≡ before ++ one ∷ next ∷ after → ⊥
    nothing [] after one next k = absurd cc
    nothing (b ∷ before) after one next k = absurd cc

  -- a byte that leads nowhere
  tells_skip : (n : ℕ) (ranges : List Range) → TellsBelow led n ranges → length (led n) ≡ 0 → TellsBelow led (n + 1) ranges
  tells_skip n ranges t none = record {
    each = λ range c. range_upto n (n + 1) range (omega arith) (t.each range c);
    whole = λ byte small some. elim (cases_lt byte n) [
      | inl below ↦ t.whole byte below some
      | inr above ↦ (let same : byte ≡ n = omega arith in let here : 0 < length (led n) = subst (λ b. 0 < length (led b)) same some in absurd (omega arith))
    ];
    apart = t.apart;
    joined = t.joined;
  }

  -- all but the last range, where that is known
  one_range : (n : ℕ) (marks : List Mark) → led n ≡ marks → 0 < length marks → TellsRange led (n + 1) (n, n, Set marks)
  one_range n marks is some = record {
    some = omega arith;
    below = omega arith;
    marks = marks;
    is = refl;
    leads = λ byte low high. (let same : n ≡ byte = omega arith in subst (λ b. led b ≡ marks) same is);
    somewhere = some;
  }

  -- a range of its own
  push : (n : ℕ) (ranges : List Range) (marks : List Mark) → TellsBelow led n ranges → led n ≡ marks → 0 < length marks → (Adjoins ranges n marks → ⊥)
      → TellsBelow led (n + 1) (ranges ++ (n, n, Set marks) ∷ [])
  push n ranges marks t is some apart_from = record {
    each = λ range c. elim (Contains-append_cases ranges (last ∷ []) range c) [
      | inl d ↦ range_upto n (n + 1) range (omega arith) (t.each range d)
      | inr d ↦ elim (contains_cases last [] range d) [
        | inl e ↦ subst (TellsRange led (n + 1)) e (one_range n marks is some)
        | inr none ↦
            absurd (contains_none range none)
      ]
    ];
    whole = λ byte small here. elim (cases_lt byte n) [
      | inl below ↦ (let w = t.whole byte below here in (w.0, Contains-append_left ranges (last ∷ []) w.0 w.1, w.2, w.3))
      | inr above ↦ (last, Contains-append_right ranges (last ∷ []) last (contains_here last []), omega arith, omega arith)
    ];
    apart = apart_push ranges last t.apart (λ range c. (let k = t.each range c in k.below));
    joined = λ before after one next e touch keys. elim (neighbours ranges last before after one next e) [
      | inl k ↦ t.joined before k.0 one next k.1 touch keys
      | inr k ↦ apart_from (
        before,
        one.0,
        one.1,
        k.same ∙ ap (λ s. before ++ (one.0, one.1, s) ∷ []) (keys ∙ ap (λ (r : Range). r.2) k.end),
        touch ∙ ap (λ (r : Range). r.0) k.end,
      )
    ];
  } where
    last : Range
    last = (n, n, Set marks)

  -- the last range goes on
  extend : (n : ℕ) (before : List Range) (low high : ℕ) (marks : List Mark) → TellsBelow led n (before ++ (low, high, Set marks) ∷ []) → high + 1 ≡ n
      → led n ≡ marks
      → TellsBelow led (n + 1) (before ++ (low, n, Set marks) ∷ [])
  extend n before low high marks t touch is = record {
    each = λ range c. elim (Contains-append_cases before (new ∷ []) range c) [
      | inl d ↦ range_upto n (n + 1) range (omega arith) (t.each range (Contains-append_left before (old ∷ []) range d))
      | inr d ↦ elim (contains_cases new [] range d) [ inl e ↦ subst (TellsRange led (n + 1)) e longer | inr none ↦ absurd (contains_none range none) ]
    ];
    whole = λ byte small here. elim (cases_lt byte n) [
      | inl below ↦ (let w = t.whole byte below here in
          let stops = w.3 in
          elim (Contains-append_cases before (old ∷ []) w.0 w.1) [
            | inl d ↦ (w.0, Contains-append_left before (new ∷ []) w.0 d, w.2, w.3)
            | inr d ↦ elim (contains_cases old [] w.0 d) [
              | inl e ↦ (new, last_there, subst (λ (r : Range). r.0 ≤ byte) (sym e) w.2, omega arith)
              | inr none ↦ absurd (contains_none w.0 none)
            ]
          ])
      | inr above ↦ (new, last_there, (let some = was.some in omega arith), omega arith)
    ];
    apart = apart_push before new (apart_before before old t.apart).0 (apart_before before old t.apart).1;
    joined = λ front after one next e reach keys. elim (neighbours before new front after one next e) [
      | inl k ↦ t.joined front (k.0 ++ old ∷ []) one next (ap (λ l. l ++ old ∷ []) k.1 ∙ append_assoc front (one ∷ next ∷ k.0) (old ∷ [])) reach keys
      | inr k ↦ t.joined front [] one old (ap (λ l. l ++ old ∷ []) k.same ∙ append_assoc front (one ∷ []) (old ∷ [])) (reach ∙ ap (λ (r : Range). r.0) k.end)
          (keys ∙ ap (λ (r : Range). r.2) k.end)
    ];
  } where
    old : Range
    old = (low, high, Set marks)

    new : Range
    new = (low, n, Set marks)

    last_there : Contains (before ++ new ∷ []) new
    last_there = Contains-append_right before (new ∷ []) new (contains_here new [])

    was : TellsRange led n old
    was = t.each old (Contains-append_right before (old ∷ []) old (contains_here old []))

    longer : TellsRange led (n + 1) new
    longer = let some = was.some in
        record {
          some = omega arith;
          below = omega arith;
          marks = marks;
          is = refl;
          leads = λ byte from to. elim (cases_lt byte n) [
            | inl below ↦ was.leads byte from (omega arith) ∙ same_set was.marks marks (Set marks) was.is refl
            | inr above ↦ (let same : n ≡ byte = omega arith in subst (λ b. led b ≡ marks) same is)
          ];
          somewhere = subst (λ m. 0 < length m) (same_set was.marks marks (Set marks) was.is refl) was.somewhere;
        }

  -- the last range goes on over more bytes
  lengthen : (count n : ℕ) (before : List Range) (first : ℕ) (marks : List Mark) → TellsBelow led (n + 1) (before ++ (first, n, Set marks) ∷ [])
      → ((byte : ℕ) → n ≤ byte → byte ≤ n + count → led byte ≡ marks)
      → TellsBelow led (n + count + 1) (before ++ (first, n + count, Set marks) ∷ [])
  lengthen zero n before first marks t same = subst (λ m. TellsBelow led (m + 1) (before ++ (first, m, Set marks) ∷ []))
      (let e : n ≡ n + zero = omega arith in e) t
  lengthen (suc count) n before first marks t same = subst (λ m. TellsBelow led (m + 1) (before ++ (first, m, Set marks) ∷ []))
      (let e : n + count + 1 ≡ n + suc count = omega arith in e)
      (extend (n + count + 1) before first (n + count) marks
      (lengthen count n before first marks t (λ byte from to. same byte from (omega arith)))
      refl
      (same (n + count + 1) (omega arith) (omega arith)))

  -- the bytes from low to high lead to the same marks
  pub tells_more : (low high : ℕ) (old new : List Range) (marks : List Mark) → low ≤ high → TellsBelow led low old → ((byte : ℕ) → low ≤ byte → byte ≤ high
      → led byte ≡ marks)
      → 0 < length marks → IsWithRange old low high marks new → TellsBelow led (high + 1) new
  tells_more low high old new marks up t same some with = subst (λ h. TellsBelow led (h + 1) new) top (elim with [
    | inl k ↦ subst (TellsBelow led (low + count + 1)) (ap (λ h. k.0 ++ (k.1, h, Set marks) ∷ []) top ∙ sym k.5)
        (lengthen count low k.0 k.1 marks (extend low k.0 k.1 k.2 marks (subst (TellsBelow led low) k.3 t) k.4 here) all)
    | inr k ↦ subst (TellsBelow led (low + count + 1)) (ap (λ h. old ++ (low, h, Set marks) ∷ []) top ∙ sym k.1)
        (lengthen count low old low marks (push low old marks t here some k.0) all)
  ]) where
    count : ℕ
    count = high - low

    top : low + count ≡ high
    top = omega arith

    here : led low ≡ marks
    here = same low (omega arith) up

    all : (byte : ℕ) → low ≤ byte → byte ≤ low + count → led byte ≡ marks
    all byte from to = same byte from (omega arith)

  -- the bytes from n on lead nowhere
  skips : (count n : ℕ) (ranges : List Range) → TellsBelow led n ranges → ((byte : ℕ) → n ≤ byte → byte < n + count → length (led byte) ≡ 0)
      → TellsBelow led (n + count) ranges
  skips zero n ranges t none = subst (λ m. TellsBelow led m ranges) (let e : n ≡ n + zero = omega arith in e) t
  skips (suc count) n ranges t none = subst (λ m. TellsBelow led m ranges) (let e : n + count + 1 ≡ n + suc count = omega arith in e)
      (tells_skip (n + count) ranges (skips count n ranges t (λ byte from to. none byte from (omega arith))) (none (n + count) (omega arith) (omega arith)))

  -- the bytes from low to high lead nowhere
  pub tells_no_more : (low high : ℕ) (ranges : List Range) (marks : List Mark) → low ≤ high → TellsBelow led low ranges → ((byte : ℕ) → low ≤ byte
      → byte ≤ high → led byte ≡ marks)
      → length marks ≡ 0 → TellsBelow led (high + 1) ranges
  tells_no_more low high ranges marks up t same none = subst (λ m. TellsBelow led m ranges) top
      (skips count low ranges t (λ byte from to. (ap length (same byte from (omega arith)) ∙ none))) where
        count : ℕ
        count = high + 1 - low

        top : low + count ≡ high + 1
        top = omega arith

  some_mark : (marks : List Mark) (mark : Mark) → Contains marks mark → 0 < length marks
  some_mark marks mark c = let below = c.1 in omega arith

  -- ranges that tell of all bytes are the expansion
  pub tells_all : (grammar : Grammar) (key : ScanKey) (ranges : List Range) → TellsBelow led 256 ranges → ((byte : ℕ)
      → ListsMarks (LeadsTo grammar key byte) (led byte)) → IsScanExpansionOf grammar key ranges
  tells_all grammar key ranges t lists = record {
    each = λ range c. (
        let r = t.each range c in
        record {
          some = r.some;
          bytes = r.below;
          marks = r.marks;
          is = r.is;
          leads = λ byte low high. subst (ListsMarks (LeadsTo grammar key byte)) (r.leads byte low high) (lists byte);
          somewhere = r.somewhere;
        });
    whole = λ byte mark small leads. t.whole byte small (some_mark (led byte) mark (((lists byte).members mark).1 leads));
    apart = t.apart;
    joined = t.joined;
  }
