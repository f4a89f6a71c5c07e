-- Tests whether two marks, sets or keys are the same, and what each gives to a hash.
use Rattle.std.specs.Prelude.{◌≡◌, ℕ, Bool, true, false, ◌&&◌, ◌++◌, List, refl}
use Rattle.std.specs.Bool.{Decides}
use Rattle.std.specs.Cmp.{unsigned_Decides}
use Rattle.std.specs.Cmp.Lexicographic.{pointwise}
use Rattle.std.specs.Hash as fed
use Rattle.std.proofs.Common.{ap, ◌∙◌, nat_eq}
use Rattle.std.proofs.lemmas.Bool.{and_parts, and_from}
use Rattle.std.proofs.lemmas.Slice.Eq.{slice_eq-Decides}
use Rattle.forest.specs.declared.symbols.SymbolId.{SymbolId}
use Rattle.forest.specs.declared.rules.RuleId.{RuleId}
use Rattle.edit_log.specs.declared.definitions.DefId.{DefId}
use Rattle.edit_log.specs.declared.definitions.DefId.TheVariants.{Literal as literal, Named as named}
use Rattle.isg_states.specs.declared.mark.Mark.{Mark}
use Rattle.isg_states.specs.declared.scan_key.ScanKey.{ScanKey}
use Rattle.isg_states.specs.declared.scan_key.ScanKey.TheVariants.{Start, Set}
use Rattle.isg_states.specs.Marks.{mark_number}

abbrev pub def_id_eq : DefId → DefId → Bool
def_id_eq (literal a) (literal b) = nat_eq a.0 b.0
def_id_eq (literal a) (named b) = false
def_id_eq (named a) (literal b) = false
def_id_eq (named a) (named b) = nat_eq a.0 b.0

pub def_id_eq-decides : (a b : DefId) → Decides (def_id_eq a b) (a ≡ b)
def_id_eq-decides (literal a) (literal b) =
    let d = unsigned_Decides a.0 b.0 in
    (λ e. ap (λ n. literal (let s : SymbolId = record { 0 = n } in s)) (d.0 e), λ e. d.1 (let same : a ≡ b = cc in ap (λ (s : SymbolId). s.0) same))
def_id_eq-decides (literal a) (named b) = (λ e. absurd cc, λ e. absurd cc)
def_id_eq-decides (named a) (literal b) = (λ e. absurd cc, λ e. absurd cc)
def_id_eq-decides (named a) (named b) =
    let d = unsigned_Decides a.0 b.0 in
    (λ e. ap (λ n. named (let r : RuleId = record { 0 = n } in r)) (d.0 e), λ e. d.1 (let same : a ≡ b = cc in ap (λ (r : RuleId). r.0) same))

abbrev pub mark_eq : Mark → Mark → Bool
mark_eq a b = def_id_eq a.def b.def && nat_eq a.index b.index

abbrev mark : DefId → ℕ → Mark
mark definition index = record { def = definition; index = index }

pub mark_eq-decides : (a b : Mark) → Decides (mark_eq a b) (a ≡ b)
mark_eq-decides a b =
    let definitions = def_id_eq-decides a.def b.def in
    let indices = unsigned_Decides a.index b.index in (
      λ e. let both = and_parts (def_id_eq a.def b.def) (nat_eq a.index b.index) e in
          ap (λ d. mark d a.index) (definitions.0 both.0) ∙ ap (λ n. mark b.def n) (indices.0 both.1),
      λ e. and_from (def_id_eq a.def b.def) (nat_eq a.index b.index) (definitions.1 (ap (λ (m : Mark). m.def) e))
          (indices.1 (ap (λ (m : Mark). m.index) e)),
    )

abbrev pub marks_eq : List Mark → List Mark → Bool
marks_eq = pointwise mark_eq

pub marks_eq-decides : (a b : List Mark) → Decides (marks_eq a b) (a ≡ b)
marks_eq-decides a b = slice_eq-Decides mark_eq-decides a b (marks_eq a b) refl

abbrev pub key_eq : ScanKey → ScanKey → Bool
key_eq Start Start = true
key_eq Start (Set b) = false
key_eq (Set a) Start = false
key_eq (Set a) (Set b) = marks_eq a b

pub key_eq-decides : (a b : ScanKey) → Decides (key_eq a b) (a ≡ b)
key_eq-decides Start Start = (λ e. refl, λ e. refl)
key_eq-decides Start (Set b) = (λ e. absurd cc, λ e. absurd cc)
key_eq-decides (Set a) Start = (λ e. absurd cc, λ e. absurd cc)
key_eq-decides (Set a) (Set b) = let d = marks_eq-decides a b in (λ e. ap (λ n. Set n) (d.0 e), λ e. d.1 (let same : a ≡ b = cc in same))

-- a mark gives its number to a hash
abbrev pub mark_fed : Mark → fed.HashWrites
mark_fed m = fed.u64 (mark_number m)

-- a key gives which kind it is, and its marks
abbrev pub key_fed : ScanKey → fed.HashWrites
key_fed Start = fed.u8 0
key_fed (Set marks) = fed.u8 1 ++ fed.slice mark_fed marks

-- each test says exactly whether the two are equal
pub ruleset sameness = (def_id_eq-decides, mark_eq-decides, marks_eq-decides, key_eq-decides)
