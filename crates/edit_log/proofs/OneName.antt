-- A name has at most one live definition, which is a token or a skip.
use Rattle.std.proofs.Common.{◌≡◌, ℕ, List, Bool, true, false, cond, Option, Some, None, find, Contains, refl, ap, sym, ◌∙◌}
use Rattle.std.proofs.lemmas.Bool.{and_parts, and_from, false_from_ne_true}
use Rattle.grammar_text.specs.declared.symbol.Symbol.TheVariants.{Named}
use Rattle.edit_log.specs.History.{Definition, Grammar, has_name, is_of_kind, is_named}
use Rattle.edit_log.specs.Verdict.{definition_found}
use Rattle.edit_log.specs.Facts.{IsWellFormed, IsNamed}
use Rattle.edit_log.specs.Replicas.{of_kind}
use Rattle.edit_log.proofs.PlainLists.{Finds, each_contained, all_contained, found, none_found, find_none, find_only, distinct_map, distinct_places}
use Rattle.edit_log.proofs.Texts.{name_at}

-- two definitions of one name are one
one_name : (g : Grammar) (name : List ℕ) (a b : Definition) → IsWellFormed g → Contains g.definitions a → Contains g.definitions b
    → has_name g.symbols name a ≡ true → has_name g.symbols name b ≡ true → a ≡ b
one_name g name a b well a-in b-in a-named b-named =
    let a-at = name_at g.symbols name a.name (each_contained (λ (d : Definition). IsNamed g.symbols d.name) g.definitions a well.names a-in) a-named in
    let b-at = name_at g.symbols name b.name (each_contained (λ (d : Definition). IsNamed g.symbols d.name) g.definitions b well.names b-in) b-named in
    let places = distinct_places g.symbols a.name.0 b.name.0 (Named name) well.distinct a-at b-at in
    distinct_map (λ (d : Definition). d.name) g.definitions a b well.one_each a-in b-in (λ i. record { 0 = places i })

pub found_of_kind : (g : Grammar) (skip : Bool) (name : List ℕ) → IsWellFormed g
    → definition_found g skip name ≡ of_kind skip (find (has_name g.symbols name) g.definitions)
found_of_kind g skip name well = by (find (has_name g.symbols name) g.definitions) refl
  where
    test : Definition → Bool
    test = is_named g.symbols skip name

    by : (one : Option Definition) → find (has_name g.symbols name) g.definitions ≡ one → find (is_named g.symbols skip name) g.definitions ≡ of_kind skip one
    by None is = find_none (is_named g.symbols skip name) g.definitions (all_contained (λ d. is_named g.symbols skip name d ≡ false) g.definitions
        (λ d there. false_from_ne_true (is_named g.symbols skip name d) (λ yes. let none = each_contained (λ (d : Definition). has_name g.symbols name d
        ≡ false) g.definitions d (none_found (has_name g.symbols name) g.definitions is) there in
        let some = (and_parts (has_name g.symbols name d) (is_of_kind skip d) yes).0 in absurd (let never : false ≡ true = sym none ∙ some in cc))))
    by (Some live) is = cases (is_of_kind skip live) refl (found (has_name g.symbols name) g.definitions live is)
      where
        cases : (kind : Bool) → is_of_kind skip live ≡ kind → Finds (has_name g.symbols name) g.definitions live
            → find (is_named g.symbols skip name) g.definitions ≡ cond kind (Some live) None
        cases true kind finds = find_only (is_named g.symbols skip name) g.definitions live (record {
          there = finds.there;
          passes =
              and_from (has_name g.symbols name live) (is_of_kind skip live) finds.passes kind;
        })
            (λ other there yes. one_name g name other live well there finds.there (and_parts (has_name g.symbols name other)
            (is_of_kind skip other) yes).0 finds.passes)
        cases false kind finds = find_none (is_named g.symbols skip name) g.definitions (all_contained (λ d. is_named g.symbols skip name d
            ≡ false) g.definitions
            (λ d there. false_from_ne_true (is_named g.symbols skip name d) (λ yes.
            let parts = and_parts (has_name g.symbols name d) (is_of_kind skip d) yes in
            let same : d ≡ live = one_name g name d live well there finds.there parts.0 finds.passes in
            absurd (let never : false ≡ true = sym kind ∙ ap (is_of_kind skip) (sym same) ∙ parts.1 in cc))))
