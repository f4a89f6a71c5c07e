-- What an edit's choice among the rows of a log comes to.
use Rattle.std.proofs.Common.{◌≡◌, ◌↔◌, ℕ, Bool, true, false, List, [], ◌∷◌, ◌++◌, IsTrue, refl, sym, ap, subst, ◌∙◌}
use Rattle.edit_log.specs.declared.touch.Touch.{Touch}
use Rattle.edit_log.specs.History.{Grammar, after_edit, grammar_of}
use Rattle.edit_log.specs.Verdict.{IsAccepted}
use Rattle.pin_rule.specs.declared.content.Entry.{Entry}
use Rattle.pin_rule.specs.Choosing.{IsStepFor}
use Rattle.row_coding.specs.declared.kinds.Kind.{Kind}
use Rattle.row_coding.specs.declared.kinds.Kind.TheVariants.{Items, Scan}
use Rattle.row_coding.specs.Rows.{Key, kind_of_key}
use Rattle.graph_content.specs.Affected.{IsUnaffected}
use Rattle.graph_content.specs.Changes.{IsChange, IsTouched}
use Rattle.graph_content.specs.Rows.{IsRowOf, Fits}
use Rattle.graph_content.specs.Contents.{IsLogOf, IsLogOfGrammar, IsLawfulLog, FitsLog, LeadsByEdit, IsUntouched, LeadsByTouch, KeepsRow}
use Rattle.graph_content.specs.Modifications.{Modification, after_row}
use Rattle.graph_content.proofs.ChangeLaws.{affected, unaffected}
use Rattle.graph_content.proofs.RowChanges.{exclusive}
use Rattle.graph_content.proofs.KeySizes.{key_fits}
use Rattle.graph_content.proofs.RowKeys.{one_key_of}
use Rattle.graph_content.proofs.LogLaws.{one_grammar, log_push, grammar_push}

-- a pair of logs between which a choice is made, and a row that fits the first
abbrev pub IsAsked : Modification → List ℕ → List Entry → List Entry → Type 0
IsAsked m row first next = IsStepFor IsLawfulLog FitsLog (LeadsByTouch m) row first next

pub fits_grammar : (grammar : Grammar) (log : List Entry) (row : List ℕ) → IsLogOfGrammar log grammar → FitsLog log row → Fits grammar row
fits_grammar grammar log row is (other, that, fits) = subst (λ g. Fits g row) (one_grammar log other grammar that is) fits

pub row_fits : (m : Modification) (row : List ℕ) (first next : List Entry) → IsAsked m row first next → Fits m.grammar row
row_fits m row first next (lawful, lawful_next, leads, fits) = fits_grammar m.grammar first row leads.log fits

-- the edit leads to this grammar
pub changed : (g : Grammar) (touch : Touch) (first next : List Entry) (leads : LeadsByEdit g touch first next) → IsChange g touch (after_edit g leads.edit)
changed g touch first next leads = record {
  history = leads.log.history;
  is_history = leads.log.is.is_history;
  made = leads.log.made;
  edit = leads.edit;
  accepted = leads.accepted;
  touches = leads.touches;
  leads = refl;
}

-- whose log is the next one
pub next_log : (g : Grammar) (touch : Touch) (first next : List Entry) (leads : LeadsByEdit g touch first next) → IsLogOfGrammar next (after_edit g leads.edit)
next_log g touch first next leads =
    let accepted : IsAccepted (grammar_of leads.log.history) leads.edit = subst (λ h. IsAccepted h leads.edit) leads.log.made leads.accepted in
    record {
      history = leads.log.history ++ leads.edit ∷ [];
      is =
          subst (λ log. IsLogOf log (leads.log.history ++ leads.edit ∷ [])) (sym leads.longer)
          (log_push first leads.log.history leads.entry leads.edit leads.log.is accepted leads.words);
      made = ap (λ h. after_edit h leads.edit) leads.log.made ∙ sym (grammar_push leads.log.history leads.edit);
    }

-- ---- one edit with a touch speaks for all

pub left_exact : (g next : Grammar) (touch : Touch) (key : Key) → IsChange g touch next → (row : List ℕ) → IsRowOf g key row → IsUnaffected g next key
    → IsUntouched g touch row
left_exact g next touch key change row is left = record {
  key = key;
  is = is;
  unaffected = λ other c.
      unaffected g other touch key c is.names (λ touched. exclusive g next key (affected g next touch key change is.names touched) left);
}

pub left_told : (g next : Grammar) (touch : Touch) (key : Key) (row : List ℕ) → IsChange g touch next → IsRowOf g key row → IsUntouched g touch row
    → IsUnaffected g next key
left_told g next touch key row change is left =
    let same : left.key ≡ key =
    one_key_of g row left.key key (key_fits g next touch left.key change left.is.names) (key_fits g next touch key change is.names) left.is is in
    subst (λ k. IsUnaffected g next k) same (left.unaffected next change)

-- ---- the counts are no part of the choice

pub same_grammar : (m : Modification) (kind : Kind) (kept : Bool) → (after_row m kind kept).grammar ≡ m.grammar
same_grammar m kind true = refl
same_grammar m Items false = refl
same_grammar m Scan false = refl

pub same_touch : (m : Modification) (kind : Kind) (kept : Bool) → (after_row m kind kept).touch ≡ m.touch
same_touch m kind true = refl
same_touch m Items false = refl
same_touch m Scan false = refl

module _ (m n : Modification) (row : List ℕ) (kept : Bool) (fits : Fits m.grammar row)
    (counted : (key : Key) → IsRowOf m.grammar key row → n ≡ after_row m (kind_of_key key) kept) where
  grammar_stays : n.grammar ≡ m.grammar
  grammar_stays = ap (λ (k : Modification). k.grammar) (counted fits.0 fits.1) ∙ same_grammar m (kind_of_key fits.0) kept

  touch_stays : n.touch ≡ m.touch
  touch_stays = ap (λ (k : Modification). k.touch) (counted fits.0 fits.1) ∙ same_touch m (kind_of_key fits.0) kept

  pub same_leads : (first next : List Entry) → LeadsByTouch n first next ↔ LeadsByTouch m first next
  same_leads first next = (
    λ is. subst (λ g. LeadsByEdit g m.touch first next) grammar_stays (subst (λ t. LeadsByEdit n.grammar t first next) touch_stays is),
    λ is. subst (λ t. LeadsByEdit n.grammar t first next) (sym touch_stays) (subst (λ g. LeadsByEdit g m.touch first next) (sym grammar_stays) is),
  )

  pub same_keeps : (words : List ℕ) → KeepsRow n words ↔ KeepsRow m words
  same_keeps words = (
    λ is. subst (λ g. IsUntouched g m.touch words) grammar_stays (subst (λ t. IsUntouched n.grammar t words) touch_stays is),
    λ is. subst (λ t. IsUntouched n.grammar t words) (sym touch_stays) (subst (λ g. IsUntouched g m.touch words) (sym grammar_stays) is),
  )

-- ---- the answer

pub exact : (m : Modification) (row : List ℕ) (first next : List Entry) (kept : Bool) → IsAsked m row first next
    → ((other : Grammar) (key : Key) → IsChange m.grammar m.touch other → IsRowOf m.grammar key row → IsTrue kept ↔ IsUnaffected m.grammar other key)
    → IsTrue kept ↔ KeepsRow m row
exact m row first next kept asked told = (
  λ is_kept. let fits = row_fits m row first next asked in record {
    key = fits.0;
    is = fits.1;
    unaffected = λ other change. (told other fits.0 change fits.1).0 is_kept;
  },
  λ left. let change = changed m.grammar m.touch first next asked.2 in
      (told (after_edit m.grammar asked.2.edit) left.key change left.is).1 (left.unaffected (after_edit m.grammar asked.2.edit) change),
)

pub fits_next : (m : Modification) (row : List ℕ) (kept : Bool)
    → ((other : Grammar) → IsChange m.grammar m.touch other → IsTrue kept → Fits other row)
    → IsTrue kept → (first next : List Entry) → IsAsked m row first next → FitsLog next row
fits_next m row kept told is_kept first next asked =
    let other = after_edit m.grammar asked.2.edit in
    (other, next_log m.grammar m.touch first next asked.2, told other (changed m.grammar m.touch first next asked.2) is_kept)
