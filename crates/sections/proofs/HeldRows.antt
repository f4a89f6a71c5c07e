-- The keys whose rows stand at the first places of a page are counted, and in the end those of its graph.
use Rattle.std.proofs.Common.{◌≡◌, ◌↔◌, ℕ, ◌+◌, ◌<◌, ◌≤◌, List, [], ◌∷◌, Option, Some, None, inl, inr, length, Contains, refl, sym, ap, ◌∙◌, subst, arith}
use Rattle.std.proofs.lemmas.Bool.{cases_lt}
use Rattle.std.specs.Borrow.{Bor}
use Rattle.forest.specs.Distinct.{IsDistinct}
use Rattle.forest.proofs.Ascending.{contains_here, contains_there, contains_cases}
use Rattle.edit_log.specs.History.{Grammar}
use Rattle.item_sets.specs.declared.item.Item.{Item}
use Rattle.isg_states.specs.declared.scan_key.ScanKey.{ScanKey}
use Rattle.pin_rule.specs.declared.content.Entry.{Entry}
use Rattle.row_coding.specs.declared.kinds.Kind.{Kind}
use Rattle.row_coding.specs.declared.kinds.Kind.TheVariants.{Items, Scan}
use Rattle.row_coding.specs.Rows.{Key, kernel, scan, key_words, kind_of_key, row_words}
use Rattle.graph_content.specs.Rows.{IsRowOf, Fits}
use Rattle.graph_content.specs.Contents.{IsLogOfGrammar, FitsLog}
use Rattle.graph_content.proofs.LogLaws.{one_grammar}
use Rattle.graph_content.proofs.RowKeys.{one_key_of}
use Rattle.live_graph.specs.Growing.{HasRowOf}
use Rattle.live_graph.proofs.RowsOfKeys.{key_fits}
use Rattle.version_store.specs.Meaning.{BenchMeaning}
use Rattle.slot_store.specs.Quiet.{IsQuiet}
use Rattle.version_store.specs.BenchRows.{LoadsPlace, TellsRow}
use Rattle.version_store.specs.Edits.{place_loads}
use Rattle.version_store.specs.Placed.{IsByPlaces, ReadsAt}
use Rattle.version_store.specs.Rows.{Found}
use Rattle.sections.specs.Held.{IsCount}
use Rattle.sections.specs.Holding.{HoldsCounts}
use Rattle.sections.specs.CountedPlaces.{IsSameBench, IsOfKind, MeetsKind, ReadsKind, counted_with}
use Rattle.sections.proofs.AddedSteps.{place_quiet, adds_none, adds_join}

-- ---- the keys of one kind

-- so many keys of one kind have rows at the first places
pub record CountsFirst {X : Type 0} (grammar : Grammar) (Stands : ℕ → List ℕ → Type 0) (as_key : X → Key) (places count : ℕ) : Type 0 where
  pub members : List X
  pub many : length members ≡ count
  pub once : IsDistinct members
  pub from : (x : X) → Contains members x → (place : ℕ) × (row : List ℕ) × (place < places) × Stands place row × IsRowOf grammar (as_key x) row
  pub every : (x : X) (place : ℕ) (row : List ℕ) → place < places → Stands place row → IsRowOf grammar (as_key x) row → Contains members x

module _ {X : Type 0} (grammar : Grammar) (Stands : ℕ → List ℕ → Type 0) (as_key : X → Key) where
  none_first : CountsFirst grammar Stands as_key 0 0
  none_first = record {
    members = [];
    many = refl;
    once = tt;
    from = λ x there. absurd (omega (arith, there.1));
    every = λ x place row lt stands is. absurd (omega (arith, lt));
  }

  -- the next place has no row of such a key
  passes_by : (place count : ℕ) → ((x : X) (row : List ℕ) → Stands place row → IsRowOf grammar (as_key x) row → ⊥)
      → CountsFirst grammar Stands as_key place count → CountsFirst grammar Stands as_key (place + 1) count
  passes_by place count none so_far = record {
    members = so_far.members;
    many = so_far.many;
    once = so_far.once;
    from = λ x there. let f = so_far.from x there in let lt = f.2 in (f.0, f.1, omega (arith, lt), f.3, f.4);
    every = λ x at row lt stands is. elim (cases_lt at place) [
      | inl below ↦ so_far.every x at row below stands is
      | inr above ↦ let e : at ≡ place = omega (arith, lt, above) in absurd (none x row (subst (λ p. Stands p row) e stands) is)
    ];
  }

  -- the next place has the row of this key
  module _ (log : List Entry) (is_log : IsLogOfGrammar log grammar) (same_key : (a b : X) → as_key a ≡ as_key b → a ≡ b) (places : ℕ)
      (graph : List (List ℕ)) (by : IsByPlaces Stands places graph) where
    counts_one : (place count : ℕ) (key : X) (row : List ℕ) → Stands place row → IsRowOf grammar (as_key key) row
        → CountsFirst grammar Stands as_key place count → CountsFirst grammar Stands as_key (place + 1) (count + 1)
    counts_one place count key row stands is so_far = record {
      members = key ∷ so_far.members;
      many = let n = so_far.many in omega (arith, n);
      once = (λ there. new there, so_far.once);
      from = λ x there. elim (contains_cases key so_far.members x there) [
        | inl e ↦ (place, row, omega arith, stands, subst (λ y. IsRowOf grammar (as_key y) row) e is)
        | inr t ↦ let f = so_far.from x t in let lt = f.2 in (f.0, f.1, omega (arith, lt), f.3, f.4)
      ];
      every = λ x at other lt stood its. elim (cases_lt at place) [
        | inl below ↦ contains_there key so_far.members x (so_far.every x at other below stood its)
        | inr above ↦ let e : at ≡ place = omega (arith, lt, above) in here x other (subst (λ p. Stands p other) e stood) its
      ];
    }
      where
        new : Contains so_far.members key → ⊥
        new there =
            let f = so_far.from key there in
            let lt = f.2 in
            let e : f.0 ≡ place = by.keys_once f.0 place (key_words (as_key key)) f.4.payload is.payload (subst (Stands f.0) f.4.words f.3)
            (subst (Stands place) is.words stands) in
            omega (arith, lt, e)

        here : (x : X) (other : List ℕ) → Stands place other → IsRowOf grammar (as_key x) other → Contains (key ∷ so_far.members) x
        here x other stood its =
            let same : other ≡ row = by.one_row place other row stood stands in
            let its_row = subst (IsRowOf grammar (as_key x)) same its in
            let one = one_key_of grammar row (as_key key) (as_key x) (key_fits log grammar is_log (as_key key) is.names)
            (key_fits log grammar is_log (as_key x) its_row.names) is its_row in
            subst (Contains (key ∷ so_far.members)) (same_key key x one) (contains_here key so_far.members)

  -- where these are all places
  all_counted : (places count : ℕ) (graph : List (List ℕ)) → IsByPlaces Stands places graph → CountsFirst grammar Stands as_key places count
      → IsCount (λ x. HasRowOf grammar (as_key x) graph) count
  all_counted places count graph by counted = record {
    members = counted.members;
    are_all = record {
      distinct = counted.once;
      within = λ x there. let f = counted.from x there in (f.1, by.only f.0 f.1 f.3, f.4);
      all = λ x has. let at = by.every has.0 has.1 in counted.every x at.0 has.0 at.1 at.2 has.2;
    };
    many = counted.many;
  }

-- ---- both kinds

pub record CountsKinds (grammar : Grammar) (Stands : ℕ → List ℕ → Type 0) (places : ℕ) (held : ℕ × ℕ) : Type 0 where
  pub kernels : CountsFirst grammar Stands kernel places held.0
  pub scans : CountsFirst grammar Stands scan places held.1

pub one_kernel : (a b : List Item) → kernel a ≡ kernel b → a ≡ b
one_kernel a b e = cc e

pub one_scan : (a b : ScanKey) → scan a ≡ scan b → a ≡ b
one_scan a b e = cc e

module _ (log : List Entry) (grammar : Grammar) (is_log : IsLogOfGrammar log grammar) (Stands : ℕ → List ℕ → Type 0) (places : ℕ) (graph : List (List ℕ))
    (by : IsByPlaces Stands places graph) where
  -- a row that stands at the place is that of this key and of no other
  only_key : (place : ℕ) (key other : Key) (row its : List ℕ) → Stands place row → Stands place its → IsRowOf grammar key row → IsRowOf grammar other its
      → key ≡ other
  only_key place key other row its stands stood is that =
      let same = subst (IsRowOf grammar other) (by.one_row place its row stood stands) that in
      one_key_of grammar row key other (key_fits log grammar is_log key is.names) (key_fits log grammar is_log other same.names) is same

  -- the row is of the grammar that the log makes
  row_fits : (row : List ℕ) → FitsLog log row → Fits grammar row
  row_fits row fits = subst (λ g. Fits g row) (one_grammar log fits.0 grammar fits.1 is_log) fits.2

  by_key : (place : ℕ) (held : ℕ × ℕ) (kind : Kind) (key : Key) (row : List ℕ) → kind ≡ kind_of_key key → Stands place row → IsRowOf grammar key row
      → CountsKinds grammar Stands place held → CountsKinds grammar Stands (place + 1) (counted_with (Some kind) held)
  by_key place held Items (kernel items) row e stands is so_far = record {
    kernels = counts_one grammar Stands kernel log is_log one_kernel places graph by place held.0 items row stands is so_far.kernels;
    scans = passes_by grammar Stands scan place held.1
        (λ x its stood that. let e = only_key place (kernel items) (scan x) row its stands stood is that in absurd (cc e)) so_far.scans;
  }
  by_key place held Scan (scan key) row e stands is so_far = record {
    kernels = passes_by grammar Stands kernel place held.0
        (λ x its stood that. let e = only_key place (scan key) (kernel x) row its stands stood is that in absurd (cc e)) so_far.kernels;
    scans = counts_one grammar Stands scan log is_log one_scan places graph by place held.1 key row stands is so_far.scans;
  }
  by_key place held Items (scan key) row e stands is so_far = absurd (cc e)
  by_key place held Scan (kernel items) row e stands is so_far = absurd (cc e)

  counts_next : (place : ℕ) (held : ℕ × ℕ) (kind : Option Kind) → MeetsKind Stands log place kind → CountsKinds grammar Stands place held
      → CountsKinds grammar Stands (place + 1) (counted_with kind held)
  counts_next place held None none so_far = record {
    kernels = passes_by grammar Stands kernel place held.0 (λ x row stands is. none row stands) so_far.kernels;
    scans = passes_by grammar Stands scan place held.1 (λ x row stands is. none row stands) so_far.scans;
  }
  counts_next place held (Some kind) meets so_far =
      let fits = row_fits meets.0 meets.2.fits in
      by_key place held kind fits.0 meets.0 (meets.2.told fits.0 fits.1.payload fits.1.words) meets.1 fits.1 so_far

-- ---- place by place

-- the bench is as it was at first, each row stands where it stood, and the keys at the places so far are counted
pub record CountsTo (first now : BenchMeaning) (Stood Stands : ℕ → List ℕ → Type 0) (place : ℕ) (held : ℕ × ℕ) : Type 0 where
  pub same : IsSameBench first now
  pub stays : (at : ℕ) (row : List ℕ) → Stood at row ↔ Stands at row
  pub by_places : 0 < place → IsByPlaces Stood first.sizes.places first.graph
  pub counted : (grammar : Grammar) → IsLogOfGrammar first.log grammar → CountsKinds grammar Stood place held
  pub few : held.0 + held.1 ≤ place

-- a bench whose place was loaded is as it was
stays_same : (m n : BenchMeaning) (place : ℕ) (x : Option Found) → LoadsPlace m n place x → IsSameBench m n
stays_same m n place x loads = record {
  sizes = loads.sizes;
  log = loads.log;
  table = loads.table;
  pins_left = loads.pins_left;
  rows = record { kept = loads.kept; every = loads.every };
  steps = (place_loads m.sizes loads.page place x, loads.steps, place_quiet m.sizes loads.page place x);
}

module _ (m n : BenchMeaning) (Stood Stands : ℕ → List ℕ → Type 0) (place : ℕ) where
  pub read_none : TellsRow m n place None × ReadsAt FitsLog m n Stood Stands place None → ReadsKind m n Stood Stands place None
  read_none told = record {
    same = stays_same m n place None told.0;
    meets = told.1.meets;
    stays = told.1.stays;
    by_places = told.1.by_places;
  }

  pub read_some : (words : Bor (List ℕ)) (kind : Kind) → TellsRow m n place (Some words) × ReadsAt FitsLog m n Stood Stands place (Some words)
      → ((key : Key) (payload : List ℕ) → words.now ≡ row_words key payload → kind ≡ kind_of_key key) → ReadsKind m n Stood Stands place (Some kind)
  read_some words kind told kinds = record {
    same = stays_same m n place (Some told.0.0) told.0.1;
    meets = (words.now, told.1.meets.0, record { fits = told.1.meets.1; told = kinds });
    stays = told.1.stays;
    by_places = told.1.by_places;
  }

few_more : (kind : Option Kind) (held : ℕ × ℕ) (place : ℕ) → held.0 + held.1 ≤ place → (counted_with kind held).0 + (counted_with kind held).1 ≤ place + 1
few_more None held place few = omega (arith, few)
few_more (Some Items) held place few = omega (arith, few)
few_more (Some Scan) held place few = omega (arith, few)

pub same_bench : (m : BenchMeaning) → IsSameBench m m
same_bench m = record {
  sizes = refl;
  log = refl;
  table = refl;
  pins_left = refl;
  rows = record { kept = λ row i. i; every = λ row i. i };
  steps = adds_none IsQuiet m.steps m.steps refl;
}

same_on : (first old new : BenchMeaning) → IsSameBench first old → IsSameBench old new → IsSameBench first new
same_on first old new a b = record {
  sizes = b.sizes ∙ a.sizes;
  log = b.log ∙ a.log;
  table = b.table ∙ a.table;
  pins_left = b.pins_left ∙ a.pins_left;
  rows = record { kept = λ row i. a.rows.kept row (b.rows.kept row i); every = λ row i. b.rows.every row (a.rows.every row i) };
  steps = adds_join IsQuiet first.steps old.steps new.steps a.steps b.steps;
}

pub starts : (first : BenchMeaning) (Stood : ℕ → List ℕ → Type 0) → CountsTo first first Stood Stood 0 (0, 0)
starts first Stood = record {
  same = same_bench first;
  stays = λ at row. (λ s. s, λ s. s);
  by_places = λ lt. absurd (omega (arith, lt));
  counted = λ grammar is. record { kernels = none_first grammar Stood kernel; scans = none_first grammar Stood scan };
  few = omega arith;
}

module _ (first old new : BenchMeaning) (Stood Stands Next : ℕ → List ℕ → Type 0) (place : ℕ) (held : ℕ × ℕ) (kind : Option Kind)
    (so_far : CountsTo first old Stood Stands place held) (reads : ReadsKind old new Stands Next place kind) where
  same : IsSameBench first new
  same = same_on first old new so_far.same reads.same

  on : (at : ℕ) (row : List ℕ) → Stood at row → Next at row
  on at row s = (reads.stays at row).0 ((so_far.stays at row).0 s)

  back : (at : ℕ) (row : List ℕ) → Next at row → Stood at row
  back at row s = (so_far.stays at row).1 ((reads.stays at row).1 s)

  by : IsByPlaces Stood first.sizes.places first.graph
  by = record {
    only = λ at row s. same.rows.kept row (reads.by_places.only at row (on at row s));
    every = λ row i. let x = reads.by_places.every row (same.rows.every row i) in
        (x.0, subst (λ z. x.0 < z) (ap (λ z. z.places) same.sizes) x.1, back x.0 row x.2);
    one_row = λ at a b s t. reads.by_places.one_row at a b (on at a s) (on at b t);
    keys_once = λ p q key a b s t. reads.by_places.keys_once p q key a b (on p _ s) (on q _ t);
  }

  meets_first : (it : Option Kind) → MeetsKind Stands old.log place it → MeetsKind Stood first.log place it
  meets_first None none = λ row s. none row ((so_far.stays place row).0 s)
  meets_first (Some kind) meets =
      (meets.0, (so_far.stays place meets.0).1 meets.1, subst (λ log. IsOfKind log meets.0 kind) so_far.same.log meets.2)

  pub goes_on : CountsTo first new Stood Next (place + 1) (counted_with kind held)
  goes_on = record {
    same = same;
    stays = λ at row. (on at row, back at row);
    by_places = λ lt. by;
    counted = λ grammar is. counts_next first.log grammar is Stood first.sizes.places first.graph by place held kind (meets_first kind reads.meets)
        (so_far.counted grammar is);
    few = few_more kind held place so_far.few;
  }

pub ends : (first now : BenchMeaning) (Stood Stands : ℕ → List ℕ → Type 0) (place : ℕ) (held : ℕ × ℕ) → CountsTo first now Stood Stands place held
    → place ≡ first.sizes.places → 0 < place → (grammar : Grammar) → IsLogOfGrammar first.log grammar → HoldsCounts grammar first.graph held.0 held.1
ends first now Stood Stands place held counts end some grammar is =
    let by = subst (λ n. IsByPlaces Stood n first.graph) (sym end) (counts.by_places some) in
    let kinds = counts.counted grammar is in record {
      kernels = all_counted grammar Stood kernel place held.0 first.graph by kinds.kernels;
      scans = all_counted grammar Stood scan place held.1 first.graph by kinds.scans;
    }
