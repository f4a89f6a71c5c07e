-- What applying a rule that is added needs, and what it leaves.
use Rattle.std.proofs.Common.{◌≡◌, ◌<◌, ◌≤◌, ◌+◌, ◌*◌, ◌-◌, ◌==◌, ◌^◌, ℕ, zero, suc, List, [], ◌∷◌, ◌++◌, length, map, Bool, true, false, cond, nat_lt, Option}
use Rattle.std.proofs.Common.{Some, None, slice_get, slice_index_or, option_map, IfSome, Contains, Vec, vec_len, vec_capacity, if◌then◌else◌, refl, ap, sym}
use Rattle.std.proofs.Common.{◌∙◌, subst, arith, length-append}
use Rattle.std.specs.List.{AllByRecursion}
use Rattle.std.specs.List.Sorted.{IsStrictlySortedBy}
use Rattle.std.specs.declared.alloc.Global.{Global}
use Rattle.std.specs.declared.cmp.Ordering.TheVariants.{Less}
use Rattle.std.proofs.lemmas.List.Sums.{sum_by-cons, count_by-le-length}
use Rattle.std.proofs.lemmas.Bool.{ltb-true, ltb-false}
use Rattle.std.proofs.lemmas.Option.{same_Some, slice_get_within, slice_get-map}
use Rattle.grammar_text.specs.declared.symbol.Symbol.{Symbol}
use Rattle.grammar_text.specs.declared.symbol.Symbol.TheVariants.{Named}
use Rattle.grammar_text.specs.declared.edit.RuleText.{RuleText}
use Rattle.grammar_text.specs.declared.edit.Edit.{Edit}
use Rattle.grammar_text.specs.declared.edit.Edit.TheVariants.{AddRule, DropRule, AddToken, DropToken, AddSkip, DropSkip}
use Rattle.forest.specs.declared.symbols.SymbolId.{SymbolId}
use Rattle.forest.specs.declared.rules.RuleId.{RuleId}
use Rattle.forest.specs.declared.rules.Rule.{Rule}
use Rattle.forest.specs.Distinct.{IsDistinct}
use Rattle.forest.specs.Orders.{rule_cmp}
use Rattle.edit_log.specs.declared.fresh_symbols.FreshSymbol.{FreshSymbol}
use Rattle.edit_log.specs.declared.ready.NewRule.{NewRule}
use Rattle.edit_log.specs.declared.ready.Plan.TheVariants as plan
use Rattle.edit_log.specs.Symbols.{place_of, number_of, numbered, with_symbols}
use Rattle.edit_log.specs.History.{Grammar, after_edit}
use Rattle.edit_log.specs.Facts.{IsWellFormed, IsNumber, IsRight}
use Rattle.edit_log.specs.Verdict.{IsAccepted}
use Rattle.edit_log.specs.Lists.{under, occurrences, all_occurrences, IsLiveBy}
use Rattle.regex_ast.specs.Positions.{Table}
use Rattle.grammar_text.specs.Sameness.{rule_eq}
use Rattle.edit_log.specs.declared.definitions.DefId.{DefId}
use Rattle.edit_log.specs.declared.named_definitions.NamedDefinition.{NamedDefinition}
use Rattle.edit_log.specs.Lookups.{ListsDefinitions}
use Rattle.edit_log.specs.Agreement.{Agrees}
use Rattle.edit_log.specs.Kept.{AreLefts, AreUses, AreLiteralTables}
use Rattle.edit_log.specs.Replicas.{Replica, room_of, symbols_in, IsFreshSymbol, AreFreshFor, HasSpare, HasRoomUnder, IsApplicable}
use Rattle.edit_log.proofs.PlainLists.{each_contained, nat_cmp_less}
use Rattle.edit_log.proofs.Places.{IsPlaced, place_of-append, place_of-get, placed_from_get, with_symbols-placed}
use Rattle.edit_log.proofs.Texts.{numbers_within}
use Rattle.edit_log.proofs.SoundEdits.{short_right}
use Rattle.edit_log.proofs.After.{well_formed_after}
use Rattle.edit_log.proofs.LeftLists.{with_fresh, lefts_rule_added}
use Rattle.edit_log.proofs.Finders.{finds_rule_added, finds_definitions_added}
use Rattle.edit_log.proofs.Liveness.{numbers_in, uses_with, literals_with, uses_grown, uses_rule_added, literals_grown, live_grown, live_from}

-- the replica takes the rule, and has the memory for it
pub record IsRuleToAdd (replica : Replica) (p : NewRule) : Type 0 where
  pub accepted : IsAccepted replica.grammar (AddRule p.text)
  pub live : p.live ≡ numbered (after_edit replica.grammar (AddRule p.text)).symbols (replica.grammar.version + 1) p.text
  pub fresh : AreFreshFor replica.grammar (AddRule p.text) p.fresh.items
  pub room : HasSpare replica.room
  pub under : HasRoomUnder replica (AddRule p.text)

pub to_add : (replica : Replica) (edit : Edit) (p : NewRule) → IsApplicable replica edit (plan.AddRule p) → IsRuleToAdd replica p
to_add replica (AddRule r) p app =
    let same : p.text ≡ r = app.plan.0 in
    subst (λ t. IsRuleToAdd replica (record p { text = t })) (sym same)
    (record { accepted = app.accepted; live = app.plan.1; fresh = app.plan.2; room = app.room; under = app.under })
to_add replica (DropRule r) p app = absurd app.plan
to_add replica (AddToken d) p app = absurd app.plan
to_add replica (DropToken name) p app = absurd app.plan
to_add replica (AddSkip d) p app = absurd app.plan
to_add replica (DropSkip name) p app = absurd app.plan

-- and the edit is that rule's
pub edit_to_add : (replica : Replica) (edit : Edit) (p : NewRule) → IsApplicable replica edit (plan.AddRule p) → edit ≡ AddRule p.text
edit_to_add replica (AddRule r) p app = ap AddRule (sym app.plan.0)
edit_to_add replica (DropRule r) p app = absurd app.plan
edit_to_add replica (AddToken d) p app = absurd app.plan
edit_to_add replica (DropToken name) p app = absurd app.plan
edit_to_add replica (AddSkip d) p app = absurd app.plan
edit_to_add replica (DropSkip name) p app = absurd app.plan

-- ---- fresh symbols

pub new_symbols : (replica : Replica) (p : NewRule) → IsWellFormed replica.grammar → IsRuleToAdd replica p
    → IsDistinct (replica.grammar.symbols ++ symbols_in p.fresh.items)
new_symbols replica p well add = subst IsDistinct add.fresh.symbols (well_formed_after replica.grammar (AddRule p.text) well add.accepted).distinct

length_in : (fresh : List FreshSymbol) → length (symbols_in fresh) ≡ length fresh
length_in [] = refl
length_in (one ∷ fresh) = ap suc (length_in fresh)

length_rules : (fresh : List FreshSymbol) → length (map (λ one. one.rules) fresh) ≡ length fresh
length_rules [] = refl
length_rules (one ∷ fresh) = ap suc (length_rules fresh)

-- how many symbols there are afterwards
pub grown_length : (replica : Replica) (p : NewRule) → IsRuleToAdd replica p
    → length (after_edit replica.grammar (AddRule p.text)).symbols ≡ length replica.grammar.symbols + length p.fresh.items
grown_length replica p add = ap length add.fresh.symbols ∙ length-append replica.grammar.symbols (symbols_in p.fresh.items) ∙ ap
    (λ n. length replica.grammar.symbols + n) (length_in p.fresh.items)

-- ---- the left side

placed_left : (g : Grammar) (r : RuleText) → IsPlaced (after_edit g (AddRule r)).symbols (Named r.left)
unfolding after_edit
placed_left g r = (with_symbols-placed g.symbols (Named r.left ∷ r.right)).0

placed_right : (g : Grammar) (r : RuleText) → AllByRecursion (IsPlaced (after_edit g (AddRule r)).symbols) r.right
unfolding after_edit
placed_right g r = (with_symbols-placed g.symbols (Named r.left ∷ r.right)).1

pub left_within : (replica : Replica) (p : NewRule) (lefts new : List (Vec RuleId Global)) → IsRuleToAdd replica p
    → AreLefts replica.grammar.symbols replica.grammar.rules lefts → new ≡ with_fresh lefts p.fresh.items
    → p.live.left.0 < length new
left_within replica p lefts new add are new-is =
    let left : p.live.left.0 ≡ place_of (after_edit replica.grammar (AddRule p.text)).symbols (Named p.text.left) = ap (λ (r : Rule). r.left.0) add.live in
    omega (
      arith,
      left,
      placed_left replica.grammar p.text,
      grown_length replica p add,
      are.len,
      ap length new-is,
      length-append lefts (map (λ (one : FreshSymbol). one.rules) p.fresh.items),
      length_rules p.fresh.items,
    )

-- the left side has its number already, or comes behind all numbers
left_cases : (replica : Replica) (p : NewRule) → IsRuleToAdd replica p → (there : Bool) → nat_lt (place_of replica.grammar.symbols (Named p.text.left))
    (length replica.grammar.symbols) ≡ there
    → cond there (p.live.left.0 ≡ place_of replica.grammar.symbols (Named p.text.left)) (length replica.grammar.symbols ≤ p.live.left.0)
left_cases replica p add true is =
    let left : p.live.left.0 ≡ place_of (after_edit replica.grammar (AddRule p.text)).symbols (Named p.text.left) = ap (λ (r : Rule). r.left.0) add.live in
    left ∙ ap (λ ss. place_of ss (Named p.text.left)) add.fresh.symbols ∙ place_of-append replica.grammar.symbols (symbols_in p.fresh.items) (Named p.text.left)
    (ltb-true _ _ is)
left_cases replica p add false is = by (nat_lt p.live.left.0 (length replica.grammar.symbols)) refl
  where
    at : slice_get (after_edit replica.grammar (AddRule p.text)).symbols p.live.left.0 ≡ Some (Named p.text.left)
    at = subst (λ n. slice_get (after_edit replica.grammar (AddRule p.text)).symbols n ≡ Some (Named p.text.left)) (sym (ap (λ (r : Rule). r.left.0) add.live))
        (place_of-get (after_edit replica.grammar (AddRule p.text)).symbols (Named p.text.left) (placed_left replica.grammar p.text))

    front : (xs ys : List Symbol) (i : ℕ) (s : Symbol) → i < length xs → slice_get (xs ++ ys) i ≡ Some s → slice_get xs i ≡ Some s
    front [] ys i s within is = absurd (omega (arith, within))
    front (x ∷ xs) ys zero s within is = is
    front (x ∷ xs) ys (suc i) s within is = front xs ys i s (omega (arith, within)) is

    by : (within : Bool) → nat_lt p.live.left.0 (length replica.grammar.symbols) ≡ within → length replica.grammar.symbols ≤ p.live.left.0
    by true within =
        let old = front replica.grammar.symbols (symbols_in p.fresh.items) p.live.left.0 (Named p.text.left) (ltb-true _ _ within)
        (subst (λ ss. slice_get ss p.live.left.0 ≡ Some (Named p.text.left)) add.fresh.symbols at) in
        absurd (omega (arith, placed_from_get replica.grammar.symbols (Named p.text.left) p.live.left.0 old, ltb-false _ _ is))
    by false within = ltb-false _ _ within

-- a list of fresh rules has room for one
fresh_room : (fresh : List FreshSymbol) (i : ℕ) (list : Vec RuleId Global) → AllByRecursion IsFreshSymbol fresh
    → slice_get (map (λ one. one.rules) fresh) i ≡ Some list → 1 ≤ room_of list
fresh_room [] i list all is = absurd cc
fresh_room (one ∷ fresh) zero list all is = subst (λ l. 1 ≤ room_of l) (same_Some one.rules list is) all.0.room
fresh_room (one ∷ fresh) (suc i) list all is = fresh_room fresh i list all.1 is

behind : {X : Type 0} (xs ys : List X) (i j : ℕ) (y : X) → i ≡ length xs + j → slice_get (xs ++ ys) i ≡ Some y → slice_get ys j ≡ Some y
behind [] ys i j y place is = let same : i ≡ j = omega (arith, place) in ap (slice_get ys) (sym same) ∙ is
behind (x ∷ xs) ys zero j y place is = absurd (omega (arith, place))
behind (x ∷ xs) ys (suc i) j y place is = behind xs ys i j y (omega (arith, place)) is

in_front : {X : Type 0} (xs ys : List X) (i : ℕ) (y : X) → i < length xs → slice_get (xs ++ ys) i ≡ Some y → slice_get xs i ≡ Some y
in_front [] ys i y within is = absurd (omega (arith, within))
in_front (x ∷ xs) ys zero y within is = is
in_front (x ∷ xs) ys (suc i) y within is = in_front xs ys i y (omega (arith, within)) is

pub left_room : (replica : Replica) (p : NewRule) (lefts new : List (Vec RuleId Global)) → IsRuleToAdd replica p
    → AreLefts replica.grammar.symbols replica.grammar.rules lefts → replica.room.under ≡ map room_of lefts
    → new ≡ with_fresh lefts p.fresh.items → (list : Vec RuleId Global) → slice_get new p.live.left.0 ≡ Some list → vec_len list < vec_capacity list
left_room replica p lefts new add are room-is new-is list is =
    by (nat_lt (place_of replica.grammar.symbols (Named p.text.left)) (length replica.grammar.symbols)) refl (subst (λ ls. slice_get ls p.live.left.0
    ≡ Some list) new-is is)
  where
    by : (there : Bool) → nat_lt (place_of replica.grammar.symbols (Named p.text.left)) (length replica.grammar.symbols) ≡ there
        → slice_get (with_fresh lefts p.fresh.items) p.live.left.0 ≡ Some list → vec_len list < vec_capacity list
    by true there at =
        let same = left_cases replica p add true there in
        let within : p.live.left.0 < length lefts = omega (arith, same, ltb-true _ _ there, are.len) in
        let old = in_front lefts (map (λ (one : FreshSymbol). one.rules) p.fresh.items) p.live.left.0 list within at in
        let room : slice_get replica.room.under (place_of replica.grammar.symbols (Named p.text.left)) ≡ Some (room_of list) =
        ap (λ us. slice_get us (place_of replica.grammar.symbols (Named p.text.left))) room-is ∙ ap (slice_get (map room_of lefts)) (sym same)
        ∙ slice_get-map room_of lefts p.live.left.0 ∙ ap (option_map room_of) old in
        let some : 1 ≤ room_of list = subst (λ o. IfSome o (λ count. 1 ≤ count)) room add.under in
        omega (arith, some)
    by false there at =
        let past = left_cases replica p add false there in
        let some = fresh_room p.fresh.items (p.live.left.0 - length lefts) list add.fresh.each
        (behind lefts (map (λ (one : FreshSymbol). one.rules) p.fresh.items) p.live.left.0 (p.live.left.0 - length lefts) list (omega (
          arith,
          past,
          are.len,
        )) at) in
        omega (arith, some)

-- ---- the right side

pub right_within : (replica : Replica) (p : NewRule) (uses : List ℕ) → IsRuleToAdd replica p
    → length uses ≡ length (after_edit replica.grammar (AddRule p.text)).symbols
    → (part : SymbolId) → Contains p.live.right part → part.0 < length uses
right_within replica p uses add len part there =
    let all = numbers_within (after_edit replica.grammar (AddRule p.text)).symbols p.text.right (placed_right replica.grammar p.text) in
    let is : p.live.right ≡ map (number_of (after_edit replica.grammar (AddRule p.text)).symbols) p.text.right = ap (λ (r : Rule). r.right) add.live in
    let within = each_contained (λ (x : SymbolId). x.0 < length (after_edit replica.grammar (AddRule p.text)).symbols)
    (map (number_of (after_edit replica.grammar (AddRule p.text)).symbols) p.text.right) part all (subst (λ xs. Contains xs part) is there) in
    omega (arith, within, len)

length_numbers : (symbols xs : List Symbol) → length (map (number_of symbols) xs) ≡ length xs
length_numbers symbols [] = refl
length_numbers symbols (x ∷ xs) = ap suc (length_numbers symbols xs)

pub right_short : (replica : Replica) (p : NewRule) → IsRuleToAdd replica p → length p.live.right ≤ 16
right_short replica p add =
    let is : length p.live.right ≡ length p.text.right = ap (λ (r : Rule). length r.right) add.live ∙ length_numbers
    (after_edit replica.grammar (AddRule p.text)).symbols p.text.right in
    omega (arith, is, short_right p.text add.accepted.proper.0)

-- ---- how often a symbol is used at most

few_parts : (symbol : SymbolId) (parts : List SymbolId) → occurrences symbol parts ≤ length parts
few_parts symbol parts = count_by-le-length (λ (part : SymbolId). part.0 == symbol.0) parts

few_uses : (symbols : List Symbol) (symbol : SymbolId) (rules : List Rule) → AllByRecursion (λ r. IsRight symbols r.right) rules
    → all_occurrences symbol rules ≤ 16 * length rules
few_uses symbols symbol [] all = omega arith
few_uses symbols symbol (r ∷ rules) all =
    let rest = few_uses symbols symbol rules all.1 in
    let one = few_parts symbol r.right in
    omega (arith, rest, one, all.0.1, sum_by-cons (λ (other : Rule). occurrences symbol other.right) r rules)

above_all : (r : Rule) (rules : List Rule) → AllByRecursion (λ other. rule_cmp r other ≡ Less) rules
    → AllByRecursion (λ other. r.number.0 < other.number.0) rules
above_all r [] all = tt
above_all r (other ∷ rules) all = (nat_cmp_less r.number.0 other.number.0 all.0, above_all r rules all.1)

-- numbers that strictly ascend above a number, up to a version, are not many
few_rules : (rules : List Rule) (low version : ℕ) → low ≤ version → IsStrictlySortedBy rule_cmp rules → AllByRecursion (λ r. low < r.number.0) rules
    → AllByRecursion (λ r. IsNumber version r.number.0) rules
    → length rules + low ≤ version
unfolding IsStrictlySortedBy
few_rules [] low version within sorted above numbers = omega (arith, within)
few_rules (r ∷ rules) low version within sorted above numbers =
    let rest = few_rules rules r.number.0 version numbers.0.1 sorted.1 (above_all r rules sorted.0) numbers.1 in
    omega (arith, rest, above.0)

positive : (rules : List Rule) (version : ℕ) → AllByRecursion (λ r. IsNumber version r.number.0) rules → AllByRecursion (λ r. 0 < r.number.0) rules
positive [] version all = tt
positive (r ∷ rules) version all = (all.0.0, positive rules version all.1)

-- a count of uses has room for another right side
pub uses_fit : (g : Grammar) (fresh : List FreshSymbol) (uses new : List ℕ) (more : ℕ) → IsWellFormed g → AreUses g.symbols g.rules uses
    → new ≡ uses_with uses fresh → more ≤ 16 → (place : ℕ) → slice_index_or new place 0 + more < 2 ^ 32
uses_fit g fresh uses new more well are new-is short place = by (slice_get uses place) refl
  where
    total : length g.rules ≤ 16384
    total = omega (
      arith,
      few_rules g.rules zero g.version (omega arith) well.rule_order (positive g.rules g.version well.rule_numbers) well.rule_numbers,
      well.version,
    )

    zeros : (fresh : List FreshSymbol) (i : ℕ) → slice_index_or (map (λ (one : FreshSymbol). zero) fresh) i zero ≡ zero
    zeros [] i = refl
    zeros (one ∷ fresh) zero = refl
    zeros (one ∷ fresh) (suc i) = zeros fresh i

    read : (xs ys : List ℕ) (i : ℕ) (n : ℕ) → slice_get xs i ≡ Some n → slice_index_or (xs ++ ys) i zero ≡ n
    read [] ys i n is = absurd cc
    read (x ∷ xs) ys zero n is = same_Some x n is
    read (x ∷ xs) ys (suc i) n is = read xs ys i n is

    past : (xs : List ℕ) (fresh : List FreshSymbol) (i : ℕ) → slice_get xs i ≡ None → slice_index_or (xs ++ map (λ (one : FreshSymbol). zero) fresh) i zero
        ≡ zero
    past [] fresh i is = zeros fresh i
    past (x ∷ xs) fresh zero is = absurd cc
    past (x ∷ xs) fresh (suc i) is = past xs fresh i is

    by : (o : Option ℕ) → slice_get uses place ≡ o → slice_index_or new place 0 + more < 2 ^ 32
    by None is = let none_there : slice_index_or new place zero ≡ zero = ap (λ us. slice_index_or us place zero) new-is ∙ past uses fresh place is in
        omega (arith, none_there, short)
    by (Some n) is =
        let count : slice_index_or new place zero ≡ n = ap (λ us. slice_index_or us place zero) new-is ∙ read uses
        (map (λ (one : FreshSymbol). zero) fresh) place n is in
        let known : n ≡ all_occurrences (record { 0 = place }) g.rules = same_Some n (all_occurrences (record { 0 = place }) g.rules)
        (sym is ∙ are.counts place (omega (arith, slice_get_within uses place n is, are.len))) in
        omega (arith, count, known, few_uses g.symbols (record { 0 = place }) g.rules well.rights, total, short)

-- ---- the rules

pub below_next : (replica : Replica) (p : NewRule) (rules : List Rule) → IsRuleToAdd replica p
    → AllByRecursion (λ r. IsNumber replica.grammar.version r.number.0) rules → AllByRecursion (λ r. r.number.0 < p.live.number.0) rules
below_next replica p [] add all = tt
below_next replica p (r ∷ rules) add all = (omega (arith, all.0.1, ap (λ (l : Rule). l.number.0) add.live), below_next replica p rules add all.1)

-- ---- what is kept agrees with the grammar afterwards

pub after_rule : (replica : Replica) (p : NewRule) (symbols : List Symbol) (rules : List Rule) → IsRuleToAdd replica p
    → symbols ≡ replica.grammar.symbols ++ symbols_in p.fresh.items → rules ≡ replica.grammar.rules ++ p.live ∷ []
    → (record { version = replica.grammar.version + 1; symbols = symbols; rules = rules; definitions = replica.grammar.definitions }) ≡ after_edit
    replica.grammar
    (AddRule p.text)
unfolding after_edit
after_rule replica p symbols rules add symbols-are rules-are =
    let all : symbols ≡ with_symbols replica.grammar.symbols (Named p.text.left ∷ p.text.right) = symbols-are ∙ sym add.fresh.symbols in
    let listed : rules ≡ replica.grammar.rules ++ numbered (with_symbols replica.grammar.symbols (Named p.text.left ∷ p.text.right))
    (replica.grammar.version + 1) p.text ∷ [] = rules-are ∙ ap (λ l. replica.grammar.rules ++ l ∷ []) add.live in
    (λ i. record { version = replica.grammar.version + 1; symbols = all i; rules = listed i; definitions = replica.grammar.definitions })

same_numbers : (g : Grammar) (r : RuleText) → numbers_in (after_edit g (AddRule r)).definitions ≡ numbers_in g.definitions
unfolding after_edit
same_numbers g r = refl

pub agrees_rule_added : (replica : Replica) (p : NewRule) (definitions : List NamedDefinition) (numbers new_numbers : RuleText → Option RuleId)
    (names : List ℕ → Option RuleId) (lefts new_lefts : List (Vec RuleId Global))
    (uses grown new_uses : List ℕ) (literals new_literals : List (Option Table)) (live new_live : List DefId) (spare new_spare : List Rule)
    → Agrees replica.grammar numbers names lefts uses literals definitions live spare → IsRuleToAdd replica p
    → new_numbers p.text ≡ Some p.live.number → ((other : RuleText) → rule_eq p.text other ≡ false → new_numbers other ≡ numbers other)
    → length new_lefts ≡ length (with_fresh lefts p.fresh.items)
    → ((place : ℕ) → under new_lefts place ≡ (if place == p.live.left.0 then under (with_fresh lefts p.fresh.items) place ++ p.live.number ∷ [] else under
    (with_fresh lefts p.fresh.items) place))
    → grown ≡ uses_with uses p.fresh.items → length new_uses ≡ length grown
    → ((place : ℕ) → slice_get new_uses place ≡ option_map (λ n. n + occurrences (record { 0 = place }) p.live.right) (slice_get grown place))
    → new_literals ≡ literals_with literals p.fresh.items
    → ((others : List RuleId) → ListsDefinitions (IsLiveBy new_literals grown others) live → ListsDefinitions (IsLiveBy new_literals new_uses others) new_live)
    → new_spare ≡ [] → Agrees (after_edit replica.grammar (AddRule p.text)) new_numbers names new_lefts new_uses new_literals definitions new_live new_spare
agrees_rule_added replica p definitions numbers new_numbers names lefts new_lefts uses grown new_uses literals new_literals live new_live spare new_spare agrees
    add number-is others-are len-is lists-are grown-is uses-len counts literals-are live-leads spare-is =
    let g = replica.grammar in
    let text = p.text in
    let well = agrees.well_formed in
    let next = well_formed_after g (AddRule text) well add.accepted in
    let number : p.live.number ≡ record { 0 = g.version + 1 } = ap (λ (r : Rule). r.number) add.live in
    let grown_uses : AreUses (after_edit g (AddRule text)).symbols g.rules grown = subst (AreUses (after_edit g (AddRule text)).symbols g.rules) (sym grown-is)
    (uses_grown g (AddRule text) uses p.fresh.items well add.fresh agrees.has_uses) in
    let are_uses = uses_rule_added g text grown new_uses p.live.right well add.accepted grown_uses (ap (λ (r : Rule). r.right) add.live) uses-len counts in
    let are_literals : AreLiteralTables (after_edit g (AddRule text)).symbols new_literals = subst (AreLiteralTables (after_edit g (AddRule text)).symbols)
    (sym literals-are) (literals_grown g (AddRule text) literals p.fresh.items add.fresh agrees.has_literals) in
    let grown_live : ListsDefinitions (IsLiveBy new_literals grown (numbers_in g.definitions)) live =
    subst (λ ls. ListsDefinitions (IsLiveBy ls grown (numbers_in g.definitions)) live) (sym literals-are)
    (subst (λ us. ListsDefinitions (IsLiveBy (literals_with literals p.fresh.items) us (numbers_in g.definitions)) live) (sym grown-is)
    (live_grown g (AddRule text) uses literals p.fresh.items live well add.fresh agrees.has_uses agrees.has_literals agrees.has_live)) in
    let new_listed = subst (λ ns. ListsDefinitions (IsLiveBy new_literals new_uses ns) new_live) (sym (same_numbers g text))
    (live-leads (numbers_in g.definitions) grown_live) in
    record {
      well_formed = next;
      finds_rules = finds_rule_added g text numbers new_numbers well add.accepted agrees.finds_rules (number-is ∙ ap Some number) others-are;
      finds_definitions = finds_definitions_added g text names well add.accepted agrees.finds_definitions;
      has_lefts = lefts_rule_added g text lefts new_lefts p.fresh.items p.live.left p.live.number well add.accepted add.fresh agrees.has_lefts
          (ap (λ (r : Rule). r.left) add.live) number len-is lists-are;
      has_uses = are_uses;
      has_literals = are_literals;
      has_positions = agrees.has_positions;
      has_live = live_from (after_edit g (AddRule text)) new_uses new_literals new_live next are_uses are_literals new_listed;
      no_spare = spare-is;
    }
