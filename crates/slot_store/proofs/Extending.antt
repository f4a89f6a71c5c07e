-- Steps that were added, seen as what the page means.
use Rattle.std.proofs.Common.{◌≡◌, ℕ, List, [], ◌∷◌, ◌++◌, append_assoc, sym, ap, ◌∙◌, subst}
use Rattle.std.specs.Prelude.{None}
use Rattle.pin_rule.specs.Steps.{published, after_publish}
use Rattle.pin_rule.proofs.Lists.{each_append}
use Rattle.slot_store.specs.declared.page.Put.TheVariants as put
use Rattle.atomic_table.specs.Seated.{TableId}
use Rattle.pin_rule.specs.declared.sizes.Sizes.{Sizes}
use Rattle.pin_rule.specs.declared.content.Entry.{Entry}
use Rattle.pin_rule.specs.declared.view.View.{View}
use Rattle.pin_rule.specs.declared.view.Step.{Step}
use Rattle.slot_store.specs.declared.page.Look.{Look}
use Rattle.slot_store.specs.declared.page.Put.{Put}
use Rattle.slot_store.specs.Meaning.{extended, meaning_of}
use Rattle.slot_store.specs.Answers.{LookIs, PutIs, Finds, Publishes}
use Rattle.slot_store.specs.declared.site.Site.{Site}
use Rattle.slot_store.specs.Quiet.{IsQuiet}
use Rattle.slot_store.specs.Walks.{MovesBy, Moves}
use Rattle.slot_store.proofs.Growing.{quietly}

module _ (z : Site) (v w : View) (t s : TableId × ℕ) (added : List Step) (moves : MovesBy IsQuiet v w added) (own : w.own ≡ v.own) (same : s ≡ t) where
  pub extends : meaning_of w z.page s ≡ extended (meaning_of v z.page t) added
  extends = λ i. record {
    sizes = moves.sizes i;
    page = z.page;
    log = moves.log i;
    table = same i;
    share = moves.share i;
    pins_left = moves.pins_left i;
    own = own i;
    graph = None;
    steps = moves.steps i;
  }

  pub publishes : (key payload : List ℕ) (put : Put) → v.sizes ≡ z.sizes → PutIs z.sizes z.page added key payload put
      → Publishes (meaning_of v z.page t) (meaning_of w z.page s) key payload put
  publishes key payload put e is = (added, extends, moves.quiet, subst (λ (y : Sizes). PutIs y z.page added key payload put) (sym e) is)

-- the last step put a row to a place
module _ (z : Site) (v x w : View) (t s : TableId × ℕ) (before : List Step) (place row : ℕ) (moves : MovesBy IsQuiet v x before) (sizes : v.sizes ≡ z.sizes)
    (is : w ≡ after_publish x z.page place row 0) (own : v.own ≡ None) (same : s ≡ t) where
  abbrev added : List Step
  added = before ++ published z.sizes z.page place row 0 ∷ []

  made_steps : x.steps ++ published x.sizes z.page place row 0 ∷ [] ≡ v.steps ++ (before ++ published z.sizes z.page place row 0 ∷ [])
  made_steps = (λ i. moves.steps i ++ published ((moves.sizes ∙ sizes) i) z.page place row 0 ∷ [])
      ∙ append_assoc v.steps before (published z.sizes z.page place row 0 ∷ [])

  makes : meaning_of (after_publish x z.page place row 0) z.page s
      ≡ extended (meaning_of v z.page t) (before ++ published z.sizes z.page place row 0 ∷ [])
  makes = λ i. record {
    sizes = moves.sizes i;
    page = z.page;
    log = moves.log i;
    table = same i;
    share = moves.share i;
    pins_left = moves.pins_left i;
    own = sym own i;
    graph = None;
    steps = made_steps i;
  }

  pub publishes_row : (key payload : List ℕ) → PutIs z.sizes z.page (before ++ published z.sizes z.page place row 0 ∷ []) key payload put.Made
      → Publishes (meaning_of v z.page t) (meaning_of w z.page s) key payload put.Made
  publishes_row key payload put_is = (
    added,
    ap (λ (y : View). meaning_of y z.page s) is ∙ makes,
    each_append IsQuiet before (published z.sizes z.page place row 0 ∷ []) moves.quiet (tt, tt),
    subst (λ (y : Sizes). PutIs y z.page added key payload put.Made) (sym sizes) put_is,
  )

pub finds : (z : Site) (v w : View) (t s : TableId × ℕ) (added : List Step) → Moves v w added → w.own ≡ v.own → s ≡ t → (F : List Entry → List ℕ → Type 0)
    (key : List ℕ) (look : Look) → v.sizes ≡ z.sizes → LookIs z.sizes z.page added (F v.log) key look
    → Finds F (meaning_of v z.page t) (meaning_of w z.page s) key look
finds z v w t s added moves own same F key look e is = let quiet = quietly v w added moves in (
  added,
  extends z v w t s added quiet own same,
  quiet.quiet,
  subst (λ (y : Sizes). LookIs y z.page added (F v.log) key look) (sym e) is,
)
