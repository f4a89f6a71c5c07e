-- What a scan knows of its states, and how it learns more.
use Rattle.std.proofs.Common.{◌≡◌, inl, inr, ◌⊎◌, ℕ, zero, suc, ◌+◌, ◌*◌, ◌-◌, ◌<◌, ◌≤◌, List, [], ◌∷◌, ◌++◌, length, take, replicate, get_or, Option}
use Rattle.std.proofs.Common.{Some, None, Result, Ok, Err, IfOk, slice_get, Contains, refl, sym, ap, ◌∙◌, subst, arith, length-append}
use Rattle.std.specs.List.{position}
use Rattle.std.proofs.lemmas.List.Quantifiers.{position-Some}
use Rattle.isg_states.specs.Sameness.{key_eq, key_eq-decides}
use Rattle.std.proofs.lemmas.Bool.{cases_lt}
use Rattle.std.proofs.lemmas.List.{get_or-replicate, length-replicate, take_all}
use Rattle.std.proofs.lemmas.List.Elements.{Contains-push_cases}
use Rattle.std.proofs.lemmas.Option.{slice_get_within, get_or_from_slice_get, slice_get-get_or, slice_get_read, same_Some}
use Rattle.edit_log.specs.declared.definitions.DefKind.{DefKind}
use Rattle.edit_log.specs.History.{Grammar}
use Rattle.edit_log.proofs.Texts.{slice_get-append}
use Rattle.forest.proofs.Ascending.{contains_cases}
use Rattle.isg_states.specs.declared.mark.Mark.{Mark}
use Rattle.isg_states.specs.declared.scan_key.ScanKey.{ScanKey}
use Rattle.isg_states.specs.declared.scan_key.ScanKey.TheVariants.{Start, Set}
use Rattle.isg_states.specs.Expansion.{Range, AreMarks, LeadsTo}
use Rattle.forest.specs.Numbers.{KeepsNumbers}
use Rattle.isg_scan.specs.States.{IsWinnerKind, TellsEntry, IsScanTable, AreStates, KnowsStates, KnowsNothingYet, LeadsToState, IsFilled, IsLedRange, IsLed}

-- ---- lists

-- an element of two lists is one of the first, or of the second at what is left of the place
slice_get_parts : {X : Type 0} (xs ys : List X) (i : ℕ) (x : X) → slice_get (xs ++ ys) i ≡ Some x
    → (slice_get xs i ≡ Some x) ⊎ ((k : ℕ) × (i ≡ length xs + k) × (slice_get ys k ≡ Some x))
slice_get_parts [] ys i x is = inr (i, omega arith, is)
slice_get_parts (y ∷ xs) ys zero x is = inl is
slice_get_parts (y ∷ xs) ys (suc i) x is = elim (slice_get_parts xs ys i x is) [
  | inl front ↦ inl front
  | inr behind ↦ inr (behind.0, omega (arith, behind.1), behind.2)
]

slice_get_last : {X : Type 0} (xs : List X) (y x : X) (i : ℕ) → slice_get (xs ++ y ∷ []) i ≡ Some x → (slice_get xs i ≡ Some x) ⊎ ((i ≡ length xs) × (y ≡ x))
slice_get_last xs y x i is = elim (slice_get_parts xs (y ∷ []) i x is) [
  | inl front ↦ inl front
  | inr behind ↦
      let none : behind.0 < 1 = slice_get_within (y ∷ []) behind.0 x behind.2 in
      let first : behind.0 ≡ 0 = omega (arith, none) in
      inr (omega (arith, behind.1, first), same_Some y x (subst (λ k. slice_get (y ∷ []) k ≡ Some x) first behind.2))
]

slice_get_same : (n i a x : ℕ) → slice_get (replicate n a) i ≡ Some x → x ≡ a
slice_get_same n i a x is = sym (get_or_from_slice_get (replicate n a) i x a is) ∙ get_or-replicate n i a a (omega (
  arith,
  slice_get_within (replicate n a)
      i x is,
  length-replicate n a,
))

-- ---- entries

-- an entry of 0 tells nothing
untold : (grammar : Grammar) (keys asked : List ScanKey) (key : ScanKey) (byte entry : ℕ) → entry ≡ 0 → TellsEntry grammar keys asked key byte entry
untold grammar keys asked key byte entry none = record {
  nowhere = λ is. absurd (omega (arith, none, is));
  leads = λ number is. absurd (omega (arith, none, is));
  known = λ some. absurd (omega (arith, none, some));
}

-- an entry tells the same where more states are known, and more were asked for
pub told_more : (grammar : Grammar) (keys others asked more : List ScanKey) (key : ScanKey) (byte entry : ℕ) → KeepsNumbers keys others → ((k : ScanKey)
    → Contains asked k → Contains more k)
    → TellsEntry grammar keys asked key byte entry → TellsEntry grammar others more key byte entry
told_more grammar keys others asked more key byte entry keeps grows tells = record {
  nowhere = tells.nowhere;
  leads = λ number is. (let to = tells.leads number is in (to.0, keeps number (Set to.0) to.1, to.2));
  known = λ some. grows key (tells.known some);
}

-- ---- tables

-- more was asked for
pub table_asked : (grammar : Grammar) (keys asked more : List ScanKey) (table : List ℕ) → ((k : ScanKey) → Contains asked k → Contains more k)
    → IsScanTable grammar keys asked table → IsScanTable grammar keys more table
table_asked grammar keys asked more table grows is = record {
  size = is.size;
  tells = λ number byte entry key at small there. told_more grammar keys keys asked more key byte entry (λ n k here. here) grows (is.tells number byte
      entry key at small there);
}

-- a row more, of a state of which nothing is known
pub table_row : (grammar : Grammar) (keys asked : List ScanKey) (key : ScanKey) (table : List ℕ) → IsScanTable grammar keys asked table
    → IsScanTable grammar (keys ++ key ∷ []) asked (table ++ replicate 256 0)
table_row grammar keys asked key table is = record {
  size = omega (arith, length-append table (replicate 256 0), length-append keys (key ∷ []), is.size, length-replicate {A = ℕ} 256 0);
  tells = λ number byte entry other at small there. elim (slice_get_parts table (replicate 256 0) (256 * number + byte) entry there) [
    | inl front ↦ elim (slice_get_last keys key other number at) [
      | inl before ↦ told_more grammar keys (keys ++ key ∷ []) asked asked other byte entry (λ n k here. slice_get-append keys (key ∷ []) n k here) (λ k
          has. has)
          (is.tells number byte entry other before small front)
      | inr last ↦ absurd (omega (arith, slice_get_within table (256 * number + byte) entry front, last.0, is.size))
    ]
    | inr behind ↦ untold grammar (keys ++ key ∷ []) asked other byte entry (slice_get_same 256 behind.0 0 entry behind.2)
  ];
}

pub table_filled : (grammar : Grammar) (keys asked : List ScanKey) (old new : List ℕ) (state low high entry : ℕ) (key : ScanKey)
    → IsScanTable grammar keys asked old → slice_get keys state ≡ Some key → high < 256
    → IsFilled old new (256 * state + low) (256 * state + high) entry → ((byte : ℕ) → low ≤ byte → byte ≤ high
    → TellsEntry grammar keys asked key byte entry) → IsScanTable grammar keys asked new
table_filled grammar keys asked old new state low high entry key is own small filled told = record {
  size = filled.size ∙ is.size;
  tells = λ number byte found other at less there. elim (cases_lt byte low) [
    | inl under ↦ is.tells number byte found other at less (sym (filled.left (256 * number + byte) (λ from to. omega (
      arith,
      from,
      to,
      less,
      small,
      under,
    ))) ∙ there)
    | inr over ↦ elim (cases_lt high byte) [
      | inl above ↦ is.tells number byte found other at less (sym (filled.left (256 * number + byte) (λ from to. omega (
        arith,
        from,
        to,
        less,
        small,
        above,
        over,
      ))) ∙ there)
      | inr upto ↦ elim (cases_lt number state) [
        | inl before ↦ is.tells number byte found other at less (sym (filled.left (256 * number + byte) (λ from to. omega (
          arith,
          from,
          to,
          less,
          small,
          before,
        ))) ∙ there)
        | inr since ↦ elim (cases_lt state number) [
          | inl behind ↦ is.tells number byte found other at less (sym (filled.left (256 * number + byte) (λ from to. omega (
            arith,
            from,
            to,
            less,
            small,
            behind,
          ))) ∙ there)
          | inr until ↦
              let same : number ≡ state = omega (arith, since, until) in
              let key_is : key ≡ other = same_Some key other (sym own ∙ ap (slice_get keys) (sym same) ∙ at) in
              let entry_is : entry ≡ found = same_Some entry found (sym (filled.written (256 * number + byte) (omega (arith, same, over)) (omega (
                arith,
                same,
                upto,
              ))) ∙ there) in
              subst (λ e. TellsEntry grammar keys asked other byte e) entry_is (subst (λ k. TellsEntry grammar keys asked k byte entry) key_is (told byte
              over upto))
        ]
      ]
    ]
  ];
}

-- ---- states

pub state_more : (grammar : Grammar) (keys : List ScanKey) (accepted : List (Option DefKind)) (key : ScanKey) (kind : Option DefKind)
    → AreStates grammar keys accepted → AreMarks grammar key → IsWinnerKind grammar key kind
    → AreStates grammar (keys ++ key ∷ []) (accepted ++ kind ∷ [])
state_more grammar keys accepted key kind are marks accepts = record {
  start = slice_get-append keys (key ∷ []) 0 Start are.start;
  marks = λ other has. elim (Contains-push_cases keys key other has) [ inl before ↦ are.marks other before | inr same ↦ subst (AreMarks grammar) same marks ];
  size = omega (arith, length-append accepted (kind ∷ []), length-append keys (key ∷ []), are.size);
  accepts = λ number other its at there. elim (slice_get_last keys key other number at) [
    | inl before ↦ elim (slice_get_last accepted kind its number there) [
      | inl own ↦ are.accepts number other its before own
      | inr last ↦ absurd (omega (arith, slice_get_within keys number other before, last.0, are.size))
    ]
    | inr last ↦ elim (slice_get_last accepted kind its number there) [
      | inl own ↦ absurd (omega (arith, slice_get_within accepted number its own, last.0, are.size))
      | inr last' ↦ subst (λ k. IsWinnerKind grammar k its) last.1 (subst (IsWinnerKind grammar key) last'.1 accepts)
    ]
  ];
}

-- the start alone
pub knows_start : KnowsNothingYet (Start ∷ []) (None ∷ []) (replicate 256 0)
knows_start grammar asked = record {
  states = record {
    start = refl;
    marks = λ key has. elim (contains_cases Start [] key has) [ inl same ↦ subst (AreMarks grammar) same tt | inr none ↦ absurd (omega (arith, none.1)) ];
    size = refl;
    accepts = λ number key kind at there.
        let first : number ≡ 0 = omega (arith, slice_get_within (Start ∷ []) number key at) in
        let key_is : Start ≡ key = same_Some Start key (subst (λ n. slice_get (Start ∷ []) n ≡ Some key) first at) in
        let kind_is : None ≡ kind = same_Some None kind (subst (λ n. slice_get (None ∷ []) n ≡ Some kind) first there) in
        subst (λ k. IsWinnerKind grammar k kind) key_is (subst (IsWinnerKind grammar Start) kind_is (λ definition ends. ends));
  };
  entries = record {
    size = length-replicate {A = ℕ} 256 0;
    tells = λ number byte entry key at small there. untold grammar (Start ∷ []) asked key byte entry (slice_get_same 256 (256 * number + byte) 0 entry there);
  };
}

-- ---- places

-- the place of a key that was found
pub placed : (keys : List ScanKey) (key : ScanKey) (place : ℕ) → position (key_eq key) keys ≡ Some place → slice_get keys place ≡ Some key
placed keys key place is =
    let at = position-Some (key_eq key) keys place key is in
    slice_get-get_or keys place key at.0 ∙ ap Some (sym ((key_eq-decides key (get_or keys place key)).0 at.1))

pub last_at : {X : Type 0} (list : List X) (x : X) → slice_get (list ++ x ∷ []) (length list) ≡ Some x
last_at [] x = refl
last_at (y ∷ list) x = last_at list x

-- a list with so many more entries at its end
pub resized : (list : List ℕ) (size more old : ℕ) → old ≡ length list → size ≡ old + more → take size list ++ replicate (size - old) 0 ≡ list ++ replicate
    more 0
resized list size more old old_is size_is =
    let left : size - old ≡ more = omega (arith, size_is) in
    ap (λ front. front ++ replicate (size - old) 0) (take_all size list (omega (arith, old_is, size_is))) ∙ ap (λ n. list ++ replicate n 0) left

pub read_at : {X : Type 0} (list xs : List X) (place : ℕ) (x : X) → list ≡ xs → place < length xs → x ≡ get_or list place x → slice_get xs place ≡ Some x
read_at list xs place x same within is = ap (λ l. slice_get l place) (sym same) ∙ slice_get_read list (length list) place x refl (subst (λ l. place <
    length l) (sym same) within) is

pub if_ok_more : {X E : Type 0} (result : Result X E) (P Q : X → Type 0) → ((x : X) → P x → Q x) → IfOk result P → IfOk result Q
if_ok_more (Ok x) P Q more holds = more x holds
if_ok_more (Err e) P Q more holds = tt

-- ---- what was learned

module _ (grammar : Grammar) (keys asked more : List ScanKey) (accepted : List (Option DefKind)) (old new : List ℕ) (state byte : ℕ) (key : ScanKey) (own :
    slice_get keys state ≡ Some key) (known : Contains more key)
    (grows : (k : ScanKey) → Contains asked k → Contains more k) where
  -- the byte leads nowhere
  pub learned_none : KnowsStates grammar asked keys accepted old → byte < 256 → ((mark : Mark) → LeadsTo grammar key byte mark → ⊥)
      → IsFilled old new (256 * state + byte) (256 * state + byte) 1
      → KnowsStates grammar more keys accepted new
  learned_none knows small nowhere filled = record {
    states = knows.states;
    entries = table_filled grammar keys more old new state byte byte 1 key (table_asked grammar keys asked more old grows knows.entries) own small filled
        (λ other since upto. subst (λ b. TellsEntry grammar keys more key b 1) (omega (arith, since, upto)) (record {
          nowhere = λ is. nowhere;
          leads = λ number is. absurd (omega (arith, is));
          known = λ some. known;
        }));
  }

  -- the bytes of a range lead to a state
  pub learned_set : (range : Range) (others : List ScanKey) (kinds : List (Option DefKind)) (rows : List ℕ) (entry : ℕ) → IsScanTable grammar keys asked old
      → KeepsNumbers keys others
      → ((seen : List ScanKey) → IsScanTable grammar keys seen old → KnowsStates grammar seen others kinds rows) → LeadsToState others range.2 entry
      → IsLedRange grammar key byte range
      → IsFilled rows new (256 * state + range.0) (256 * state + range.1) entry → KnowsStates grammar more others kinds new
  learned_set range others kinds rows entry is keeps knows to led filled =
      let after = knows more (table_asked grammar keys asked more old grows is) in
      record {
        states = after.states;
        entries = table_filled grammar others more rows new state range.0 range.1 entry key after.entries (keeps state key own) led.bytes filled
            (λ other since upto. record {
              nowhere = λ one. absurd (omega (arith, one, to.1));
              leads = λ number two.
                  let same : to.0 ≡ number = omega (arith, two, to.1) in
                  (led.marks, subst (λ n. slice_get others n ≡ Some (Set led.marks)) same (to.2 ∙ ap Some led.is), led.leads other since upto);
              known = λ some. known;
            });
      }

pub led_some : (grammar : Grammar) (key : ScanKey) (byte : ℕ) (led : Option Range) (range : Range) → IsLed grammar key byte led → led ≡ Some range
    → IsLedRange grammar key byte range
led_some grammar key byte led range is some = subst (IsLed grammar key byte) some is

pub led_none : (grammar : Grammar) (key : ScanKey) (byte : ℕ) (led : Option Range) → IsLed grammar key byte led → led ≡ None → (mark : Mark)
    → LeadsTo grammar key byte mark → ⊥
led_none grammar key byte led is none = subst (IsLed grammar key byte) none is
