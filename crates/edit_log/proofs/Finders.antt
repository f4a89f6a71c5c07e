-- Rules and definitions are still found after an edit.
use Rattle.std.proofs.Common.{◌≡◌, ℕ, ◌+◌, ◌==◌, List, [], ◌∷◌, ◌++◌, Bool, true, false, not, Option, Some, None, option_map, find, filter, refl, sym, ap}
use Rattle.std.proofs.Common.{subst, ◌∙◌, Contains}
use Rattle.std.specs.Str.{bytes_eq}
use Rattle.std.proofs.lemmas.Bool.{false_from_ne_true, both_ways, eqb-true, eq-eqb, not-true}
use Rattle.std.proofs.lemmas.Slice.Eq.{bytes_eq-Decides}
use Rattle.grammar_text.specs.declared.symbol.Symbol.{Symbol}
use Rattle.grammar_text.specs.declared.symbol.Symbol.TheVariants.{Named}
use Rattle.grammar_text.specs.declared.edit.RuleText.{RuleText}
use Rattle.grammar_text.specs.declared.edit.DefText.{DefText}
use Rattle.grammar_text.specs.declared.edit.Edit.{Edit}
use Rattle.grammar_text.specs.declared.edit.Edit.TheVariants.{AddRule, DropRule, AddSkip}
use Rattle.grammar_text.specs.Sameness.{spelling_eq, spelling_eq-decides, rule_eq, rule_eq-decides}
use Rattle.forest.specs.declared.rules.RuleId.{RuleId}
use Rattle.forest.specs.declared.rules.Rule.{Rule}
use Rattle.edit_log.specs.Symbols.{symbol_at, with_symbols, symbols_of, numbered, text_of}
use Rattle.edit_log.specs.History.{Definition, Grammar, after_edit, reads, has_name, defined}
use Rattle.edit_log.specs.Verdict.{IsAccepted, rule_found}
use Rattle.edit_log.specs.Facts.{IsWellFormed}
use Rattle.edit_log.specs.Kept.{FindsRules, FindsDefinitions}
use Rattle.edit_log.specs.Replicas.{adds, drops}
use Rattle.edit_log.proofs.PlainLists.{each_contained, all_contained, contains_filter, filter_passes, find_none, find_same, find_kept, find_push-first}
use Rattle.edit_log.proofs.PlainLists.{find_push-last}
use Rattle.edit_log.proofs.Places.{with_symbols-grows, with_symbols-placed}
use Rattle.edit_log.proofs.Texts.{named_within, symbol_at-grow, symbol_at_number, text_of-grow, text_of-numbered}
use Rattle.edit_log.proofs.Verdicts.{free, map_none, definition_there}
use Rattle.edit_log.proofs.After.{one_named, one_numbered, IsUnused, added_unused, called, symbols_stay_rule, symbols_stay_definition, definitions_dropped}

-- ---- what is there reads as before

abbrev grown_by : Grammar → Edit → List Symbol
grown_by g edit = with_symbols g.symbols (symbols_of edit)

reads_same : (g : Grammar) (edit : Edit) (r : RuleText) → IsWellFormed g → find (reads (grown_by g edit) r) g.rules ≡ find (reads g.symbols r) g.rules
reads_same g edit r well =
    let grows = with_symbols-grows g.symbols (symbols_of edit) in
    find_same (reads (grown_by g edit) r) (reads g.symbols r) g.rules (all_contained _ g.rules (λ live there.
    let left = named_within g.symbols live.left (each_contained _ g.rules live well.lefts there) in
    let right = each_contained _ g.rules live well.rights there in
    let same : text_of (grown_by g edit) live ≡ text_of g.symbols live = ap (λ ss. text_of ss live) grows.is
    ∙ text_of-grow g.symbols grows.more live left right.0 in
    ap (λ text. rule_eq text r) same))

names_same : (g : Grammar) (edit : Edit) (name : List ℕ) → IsWellFormed g
    → find (has_name (grown_by g edit) name) g.definitions ≡ find (has_name g.symbols name) g.definitions
names_same g edit name well =
    let grows = with_symbols-grows g.symbols (symbols_of edit) in
    find_same (has_name (grown_by g edit) name) (has_name g.symbols name) g.definitions (all_contained _ g.definitions (λ live there.
    let within = named_within g.symbols live.name (each_contained _ g.definitions live well.names there) in
    let same : symbol_at (grown_by g edit) live.name ≡ symbol_at g.symbols live.name = ap (λ ss. symbol_at ss live.name) grows.is
    ∙ symbol_at-grow g.symbols grows.more live.name within in
    ap (λ s. spelling_eq s (Named name)) same))

-- ---- rules

pub finds_rule_added : (g : Grammar) (r : RuleText) (old new : RuleText → Option RuleId) → IsWellFormed g → IsAccepted g (AddRule r) → FindsRules g old
    → new r ≡ Some (record { 0 = g.version + 1 }) → ((other : RuleText) → rule_eq r other ≡ false → new other ≡ old other)
    → FindsRules (after_edit g (AddRule r)) new
unfolding after_edit
finds_rule_added g r old new well accepted finds added kept other = by (rule_eq r other) refl
  where
    text : text_of (grown_by g (AddRule r)) (numbered (grown_by g (AddRule r)) (g.version + 1) r) ≡ r
    text = text_of-numbered (grown_by g (AddRule r)) (g.version + 1) r (with_symbols-placed g.symbols (symbols_of (AddRule r)))

    by : (same : Bool) → rule_eq r other ≡ same
        → new other ≡ option_map (λ live. live.number) (find (reads (grown_by g (AddRule r)) other) (g.rules ++ numbered (grown_by g (AddRule r))
        (g.version + 1) r ∷ []))
    by true is =
        let one : r ≡ other = (rule_eq-decides r other).0 is in
        let twin : find (reads g.symbols other) g.rules ≡ None = ap (λ x. find (reads g.symbols x) g.rules) (sym one) ∙ map_none _ (rule_found g r)
        (free g (AddRule r) accepted.taken).twin in
        let passes : reads (grown_by g (AddRule r)) other (numbered (grown_by g (AddRule r)) (g.version + 1) r) ≡ true = ap (λ t. rule_eq t other) text ∙ is in
        ap new (sym one) ∙ added ∙ sym (ap (option_map (λ (live : Rule). live.number)) (find_push-last (reads (grown_by g (AddRule r)) other) g.rules
        (numbered (grown_by g (AddRule r)) (g.version + 1) r) (reads_same g (AddRule r) other well ∙ twin) passes))
    by false is =
        let fails : reads (grown_by g (AddRule r)) other (numbered (grown_by g (AddRule r)) (g.version + 1) r) ≡ false = ap (λ t. rule_eq t other) text ∙ is in
        kept other is
        ∙ finds other
        ∙ sym (ap (option_map (λ (live : Rule). live.number)) (find_push-first (reads (grown_by g (AddRule r)) other) g.rules (numbered (grown_by g (AddRule r))
        (g.version + 1) r) fails ∙ reads_same g (AddRule r) other well))

pub finds_rule_dropped : (g : Grammar) (r : RuleText) (old new : RuleText → Option RuleId) → IsWellFormed g → IsAccepted g (DropRule r) → FindsRules g old
    → new r ≡ None → ((other : RuleText) → rule_eq r other ≡ false → new other ≡ old other) → FindsRules (after_edit g (DropRule r)) new
unfolding after_edit
finds_rule_dropped g r old new well accepted finds dropped kept other =
    subst (λ (symbols : List Symbol). new other ≡ option_map (λ live. live.number) (find (reads symbols other)
    (filter (λ live. not (reads symbols r live)) g.rules))) (sym (symbols_stay_rule g r well accepted)) (by (rule_eq r other) refl)
  where
    by : (same : Bool) → rule_eq r other ≡ same → new other ≡ option_map (λ live. live.number)
        (find (reads g.symbols other) (filter (λ live. not (reads g.symbols r live)) g.rules))
    by true is =
        let one : r ≡ other = (rule_eq-decides r other).0 is in
        let gone : find (reads g.symbols r) (filter (λ live. not (reads g.symbols r live)) g.rules) ≡ None =
        find_none _ _ (all_contained _ _ (λ live there. not-true (reads g.symbols r live) (each_contained _ _ live
        (filter_passes (λ live. not (reads g.symbols r live)) g.rules) there))) in
        ap new (sym one) ∙ dropped ∙ sym (ap (λ x. option_map (λ (live : Rule). live.number) (find (reads g.symbols x)
        (filter (λ live. not (reads g.symbols r live)) g.rules))) (sym one) ∙ ap (option_map (λ (live : Rule). live.number)) gone)
    by false is =
        let stays = find_kept (reads g.symbols other) (λ live. not (reads g.symbols r live)) g.rules (all_contained _ g.rules (λ live there passes.
        let text : text_of g.symbols live ≡ other = (rule_eq-decides (text_of g.symbols live) other).0 passes in
        ap not (false_from_ne_true (reads g.symbols r live) (λ e. both_ways (rule_eq r other) is ((rule_eq-decides r other).1
        (sym ((rule_eq-decides (text_of g.symbols live) r).0 e) ∙ text)))))) in
        kept other is ∙ finds other ∙ sym (ap (option_map (λ (live : Rule). live.number)) stays)

pub finds_rules_added : (g : Grammar) (skip : Bool) (d : DefText) (old : RuleText → Option RuleId) → IsWellFormed g → IsAccepted g (adds skip d)
    → FindsRules g old → FindsRules (after_edit g (adds skip d)) old
unfolding after_edit
finds_rules_added g true d old well accepted finds = λ r. finds r ∙ sym (ap (option_map (λ (live : Rule). live.number)) (reads_same g (adds true d) r well))
finds_rules_added g false d old well accepted finds = λ r. finds r ∙ sym (ap (option_map (λ (live : Rule). live.number)) (reads_same g (adds false d) r well))

pub finds_rules_dropped : (g : Grammar) (skip : Bool) (name : List ℕ) (old : RuleText → Option RuleId) → IsWellFormed g → IsAccepted g (drops skip name)
    → FindsRules g old → FindsRules (after_edit g (drops skip name)) old
unfolding after_edit
finds_rules_dropped g true name old well accepted finds = λ r. finds r ∙ sym
    (ap (option_map (λ (live : Rule). live.number)) (reads_same g (drops true name) r well))
finds_rules_dropped g false name old well accepted finds = λ r. finds r ∙ sym
    (ap (option_map (λ (live : Rule). live.number)) (reads_same g (drops false name) r well))

-- ---- tokens and skips

-- the definition has the name that it was given
named_so : (g : Grammar) (skip : Bool) (d : DefText) (name : List ℕ)
    → has_name (with_symbols g.symbols (Named d.name ∷ [])) name (defined (with_symbols g.symbols (Named d.name ∷ [])) (g.version + 1) skip d)
    ≡ bytes_eq d.name name
named_so g skip d name =
    let placed = with_symbols-placed g.symbols (Named d.name ∷ []) in
    ap (λ s. spelling_eq s (Named name)) (symbol_at_number (with_symbols g.symbols (Named d.name ∷ [])) (Named d.name) placed.0)

-- the name is found behind the definition that is added
definition_added : (g : Grammar) (skip : Bool) (d : DefText) (old new : List ℕ → Option RuleId) → IsWellFormed g → IsUnused g d.name → FindsDefinitions g old
    → new d.name ≡ Some (record { 0 = g.version + 1 }) → ((other : List ℕ) → bytes_eq d.name other ≡ false → new other ≡ old other) → (other : List ℕ)
    → new other ≡ option_map (λ live. live.number) (find (has_name (with_symbols g.symbols (Named d.name ∷ [])) other) (g.definitions
    ++ defined (with_symbols g.symbols (Named d.name ∷ [])) (g.version + 1) skip d ∷ []))
definition_added g skip d old new well free finds added kept other = by (bytes_eq d.name other) refl
  where
    by : (same : Bool) → bytes_eq d.name other ≡ same
        → new other ≡ option_map (λ live. live.number) (find (has_name (with_symbols g.symbols (Named d.name ∷ [])) other) (g.definitions
        ++ defined (with_symbols g.symbols (Named d.name ∷ [])) (g.version + 1) skip d ∷ []))
    by true is =
        let one : d.name ≡ other = (bytes_eq-Decides d.name other).0 is in
        let none : find (has_name g.symbols other) g.definitions ≡ None = ap (λ name. find (has_name g.symbols name) g.definitions) (sym one) ∙ find_none
        (has_name g.symbols d.name) g.definitions free.names in
        let last = find_push-last (has_name (with_symbols g.symbols (Named d.name ∷ [])) other) g.definitions
        (defined (with_symbols g.symbols (Named d.name ∷ [])) (g.version + 1) skip d)
        (names_same g (AddSkip d) other well ∙ none) (named_so g skip d other ∙ is) in
        ap new (sym one) ∙ added ∙ sym (ap (option_map (λ (live : Definition). live.number)) last)
    by false is =
        let first = find_push-first (has_name (with_symbols g.symbols (Named d.name ∷ [])) other) g.definitions
        (defined (with_symbols g.symbols (Named d.name ∷ [])) (g.version + 1) skip d) (named_so g skip d other ∙ is) in
        kept other is ∙ finds other ∙ sym (ap (option_map (λ (live : Definition). live.number)) (first ∙ names_same g (AddSkip d) other well))

pub finds_definition_added : (g : Grammar) (skip : Bool) (d : DefText) (old new : List ℕ → Option RuleId) → IsWellFormed g → IsAccepted g (adds skip d)
    → FindsDefinitions g old
    → new d.name ≡ Some (record { 0 = g.version + 1 }) → ((other : List ℕ) → bytes_eq d.name other ≡ false → new other ≡ old other)
    → FindsDefinitions (after_edit g (adds skip d)) new
unfolding after_edit
finds_definition_added g true d old new well accepted finds added kept = definition_added g true d old new well
    (added_unused g true d (free g (adds true d) accepted.taken)) finds added kept
finds_definition_added g false d old new well accepted finds added kept = definition_added g false d old new well
    (added_unused g false d (free g (adds false d) accepted.taken)) finds added kept

-- without the definition of this number the others are found by their names
definition_dropped : (g : Grammar) (name : List ℕ) (live : Definition) (old new : List ℕ → Option RuleId) → IsWellFormed g → Contains g.definitions live
    → has_name g.symbols name live ≡ true → FindsDefinitions g old
    → new name ≡ None → ((other : List ℕ) → bytes_eq name other ≡ false → new other ≡ old other) → (other : List ℕ)
    → new other ≡ option_map (λ live. live.number) (find (has_name g.symbols other) (filter (λ x. not (x.number.0 == live.number.0)) g.definitions))
definition_dropped g name live old new well there called finds dropped kept other = by (bytes_eq name other) refl
  where
    by : (same : Bool) → bytes_eq name other ≡ same → new other ≡ option_map (λ live. live.number)
        (find (has_name g.symbols other) (filter (λ x. not (x.number.0 == live.number.0)) g.definitions))
    by true is =
        let one : name ≡ other = (bytes_eq-Decides name other).0 is in
        let gone : find (has_name g.symbols name) (filter (λ x. not (x.number.0 == live.number.0)) g.definitions) ≡ None =
        find_none _ _ (all_contained _ _ (λ x c.
        let apart = not-true (x.number.0 == live.number.0) (each_contained _ _ x
        (filter_passes (λ (x : Definition). not (x.number.0 == live.number.0)) g.definitions) c) in
        let in_all = contains_filter (λ (x : Definition). not (x.number.0 == live.number.0)) g.definitions x c in
        false_from_ne_true (has_name g.symbols name x) (λ e. both_ways (x.number.0 == live.number.0) apart (eq-eqb x.number.0 live.number.0
        (ap (λ (d : Definition). d.number.0) (one_named g name x live well in_all there e called)))))) in
        ap new (sym one) ∙ dropped ∙ sym (ap (λ n. option_map (λ (live : Definition). live.number) (find (has_name g.symbols n)
        (filter (λ x. not (x.number.0 == live.number.0)) g.definitions))) (sym one) ∙ ap (option_map (λ (live : Definition). live.number)) gone)
    by false is =
        let stays = find_kept (has_name g.symbols other) (λ x. not (x.number.0 == live.number.0)) g.definitions (all_contained _ g.definitions (λ x c passes.
        ap not (false_from_ne_true (x.number.0 == live.number.0) (λ e.
        let same : x ≡ live = one_numbered g x live well c there (eqb-true x.number.0 live.number.0 e) in
        let his : symbol_at g.symbols x.name ≡ Named other = (spelling_eq-decides (symbol_at g.symbols x.name) (Named other)).0 passes in
        let its : symbol_at g.symbols live.name ≡ Named name = (spelling_eq-decides (symbol_at g.symbols live.name) (Named name)).0 called in
        both_ways (bytes_eq name other) is ((spelling_eq-decides (Named name) (Named other)).1 (sym its ∙ ap (λ (d : Definition). symbol_at g.symbols d.name)
        (sym same) ∙ his)))))) in
        kept other is ∙ finds other ∙ sym (ap (option_map (λ (live : Definition). live.number)) stays)

pub finds_definition_dropped : (g : Grammar) (skip : Bool) (name : List ℕ) (old new : List ℕ → Option RuleId) → IsWellFormed g → IsAccepted g (drops skip name)
    → FindsDefinitions g old
    → new name ≡ None → ((other : List ℕ) → bytes_eq name other ≡ false → new other ≡ old other) → FindsDefinitions (after_edit g (drops skip name)) new
finds_definition_dropped g skip name old new well accepted finds dropped kept other =
    let live = definition_there g skip name (free g (drops skip name) accepted.taken).lack in
    let at = called g skip name live.0 live.1 in
    let inner = definition_dropped g name live.0 old new well at.0 at.1 finds dropped kept other in
    subst (λ (symbols : List Symbol). new other ≡ option_map (λ live. live.number) (find (has_name symbols other) (after_edit g (drops skip name)).definitions))
    (sym (symbols_stay_definition g skip name well accepted))
    (subst (λ (definitions : List Definition). new other ≡ option_map (λ live. live.number) (find (has_name g.symbols other) definitions))
    (sym (definitions_dropped g skip name live.0 well accepted live.1)) inner)

pub finds_definitions_added : (g : Grammar) (r : RuleText) (old : List ℕ → Option RuleId) → IsWellFormed g → IsAccepted g (AddRule r) → FindsDefinitions g old
    → FindsDefinitions (after_edit g (AddRule r)) old
unfolding after_edit
finds_definitions_added g r old well accepted finds = λ name. finds name ∙ sym (ap (option_map (λ (live : Definition). live.number))
    (names_same g (AddRule r) name well))

pub finds_definitions_dropped : (g : Grammar) (r : RuleText) (old : List ℕ → Option RuleId) → IsWellFormed g → IsAccepted g (DropRule r)
    → FindsDefinitions g old → FindsDefinitions (after_edit g (DropRule r)) old
unfolding after_edit
finds_definitions_dropped g r old well accepted finds = λ name. finds name ∙ sym (ap (option_map (λ (live : Definition). live.number))
    (names_same g (DropRule r) name well))
