-- The rule after a step of one seat, from what the step left and from what it changed.
use Rattle.std.proofs.Common.{◌≡◌, ◌≢◌, ℕ, ◌+◌, ◌<◌, List, length, set, sym, ap, ◌∙◌, subst, arith}
use mathlib.Core.Option as maybe
use lib.ListN.{get_elem?}
use Rattle.std.specs.Prelude.{Some, None}
use Rattle.pin_rule.specs.declared.sizes.Sizes.{Sizes}
use Rattle.pin_rule.specs.declared.content.Entry.{Entry}
use Rattle.pin_rule.specs.declared.view.View.{View}
use Rattle.pin_rule.specs.declared.view.Pin.{Pin}
use Rattle.pin_rule.specs.declared.view.Role.{Role}
use Rattle.pin_rule.specs.declared.view.OwnRow.{OwnRow}
use Rattle.pin_rule.specs.Layout.{release}
use Rattle.pin_rule.specs.Views.{EachView}
use Rattle.pin_rule.specs.PartCurrent.{IsCurrent, KnowsLog}
use Rattle.pin_rule.specs.PartLive.{PinsLive, Pins, Budget, pins_on, one_pin, pins_of}
use Rattle.pin_rule.specs.PartClaims.{Claims}
use Rattle.pin_rule.specs.PartCarried.{Carried}
use Rattle.pin_rule.specs.PartFacts.{Knows, KnowsWhole}
use Rattle.pin_rule.specs.PartShares.{IsRightful}
use Rattle.pin_rule.specs.Lawful.{Lawful, IsMeasured, ArePages}
use Rattle.pin_rule.proofs.Lists.{total_alike, sum_same}
use Rattle.pin_rule.proofs.Seats.{IsAlike, IsSteady, none_some, each_set, editor_on}
use Rattle.pin_rule.proofs.Versions.{taken_live}
use Rattle.pin_rule.proofs.Parts.{Quiet, Kept, current_moves, pages_move, carried_moves, knows_on, known_on}

pub knows_log : (log : List Entry) (v w : View) → w.log ≡ v.log → w.log_words ≡ v.log_words → KnowsLog log v → KnowsLog log w
knows_log log v w a b h = subst (λ (l : List Entry × List ℕ). KnowsLog log (record w { log = l.0; log_words = l.1 })) (λ i. (sym a i, sym b i))
    (record { prefix = h.prefix; few = h.few; words = h.words })

-- pins where a seat keeps its own and the release words stay
module _ (L : List Entry → Type 0) (F : List Entry → List ℕ → Type 0) (z : Sizes) (words words' : List ℕ) (views : List View) (id : ℕ) (v w : View)
    (at : get_elem? views id ≡ maybe.some v) (h : Lawful L F z words views) (pinned : w.pinned ≡ v.pinned)
    (releases : (page : ℕ) → page < z.versions → release z words' page ≡ release z words page) where
  pub pins_stay : Pins z words' (set views id w) h.role h.taken
  pins_stay = record {
    counted = λ l t k. let c = h.pins.counted l t k in let r = releases l.page (h.live.page_in l (taken_live z h.role h.live h.taken l t k)) in
        let n = total_alike (λ (u : View). pins_on l.version u.pinned) views id v w at (ap (pins_on l.version) pinned) in omega arith;
    from_base = λ l i. let b = h.pins.from_base l i in let r = releases l.page (h.live.page_in l i) in omega arith;
    released = λ page inside none. releases page inside ∙ h.pins.released page inside none;
  }

  pub budget_stays : w.pins_left ≡ v.pins_left → Budget z words' (set views id w)
  budget_stays left = let b = h.budget in let r = sum_same z.versions (release z words') (release z words) releases in
      let n = total_alike pins_of views id v w at (λ i. one_pin (pinned i) + left i) in omega arith

module _ (L : List Entry → Type 0) (F : List Entry → List ℕ → Type 0) (z : Sizes) (words words' : List ℕ) (views : List View) (id : ℕ) (v w : View)
    (at : get_elem? views id ≡ maybe.some v)
    (h : Lawful L F z words views) (long : length words' ≡ length words) (alike : IsAlike v w) (right : IsRightful w) where
  -- a seat that keeps its share and its role, from all parts but those
  pub builds : (taken : ℕ) → ((r : Role) → v.role ≡ Some r → w.log ≡ v.log) → IsCurrent L z words' h.log h.role taken → KnowsLog h.log w → PinsLive h.role w
      → Pins z words' (set views id w) h.role taken → Budget z words' (set views id w)
      → Claims z words' (set views id w) h.role → ArePages F z words' h.log h.role → Carried F z words' h.log h.role
      → EachView (set views id w) (Knows z words' h.role) → EachView (set views id w) (KnowsWhole z words' h.role) → Lawful L F z words' (set views id w)
  builds taken same_log current log pinned pins budget claims pages carried facts known = record {
    long = long ∙ h.long;
    sizes = each_set views id v w at (IsMeasured z) (λ n. alike.sizes ∙ h.sizes id v at (λ e. n (alike.share ∙ e))) h.sizes;
    log = h.log;
    role = h.role;
    taken = taken;
    editor = editor_on views id v w at h.log h.role same_log alike.role h.editor;
    current = current;
    logs = each_set views id v w at (KnowsLog h.log) log h.logs;
    live = h.live;
    pinned = each_set views id v w at (PinsLive h.role) pinned h.pinned;
    pins = pins;
    budget = budget;
    pages = pages;
    claims = claims;
    carried = carried;
    facts = facts;
    shares = record {
      sum = total_alike (λ (u : View). u.share) views id v w at alike.share ∙ h.shares.sum;
      rightful = each_set views id v w at IsRightful right h.shares.rightful;
    };
    known = known;
  }

  -- a seat that keeps its log and its pin too, where CUR, the release words and the log stay
  module _ (same : IsSteady v w) (quiet : Quiet z words words' h.role) where
    pub settles_with : Claims z words' (set views id w) h.role → ArePages F z words' h.log h.role → Carried F z words' h.log h.role
        → EachView (set views id w) (Knows z words' h.role) → EachView (set views id w) (KnowsWhole z words' h.role) → Lawful L F z words' (set views id w)
    settles_with claims pages carried facts known = builds h.taken (λ _ _. same.log) (current_moves z words words' h.role L h.log h.taken h.taken quiet.log
        (quiet.cur ∙ h.current.cur) h.current) (knows_log h.log v w same.log same.log_words (h.logs id v at))
        (λ p e. h.pinned id v at p (sym same.pinned ∙ e)) (pins_stay L F z words words' views id v w at h same.pinned quiet.releases)
        (budget_stays L F z words words' views id v w at h same.pinned quiet.releases same.pins_left) claims pages carried facts known

    -- the live pages and their rows are as they were
    pub settles : Claims z words' (set views id w) h.role → Kept z words words' h.role → Knows z words h.role w → KnowsWhole z words h.role w
        → Lawful L F z words' (set views id w)
    settles claims kept knows whole = settles_with claims
        (pages_move z words words' h.role F h.log h.live h.pages kept)
        (carried_moves z words words' h.role F h.log h.live h.pages kept h.carried)
        (let on = knows_on z words words' h.role F h.log h.live h.pages kept in each_set views id v w at (Knows z words' h.role) (on w knows)
        (λ j u e. on u (h.facts j u e)))
        (let on = known_on z words words' h.role F h.log h.live h.pages kept in each_set views id v w at (KnowsWhole z words' h.role) (on w whole)
        (λ j u e. on u (h.known j u e)))

-- who keeps its pin and owns what it owned, or owns something while it has a pin, stays rightful
pub right_on : (v w : View) → IsAlike v w → w.pinned ≡ v.pinned → w.own ≡ v.own → IsRightful v → IsRightful w
right_on v w a pin own h = (λ e. let r = h.0 (sym a.share ∙ e) in (pin ∙ r.0, own ∙ r.1, a.role ∙ r.2), λ e. own ∙ h.1 (sym pin ∙ e))

pub right_pinned : (v w : View) (p : Pin) → IsAlike v w → v.share ≢ 0 → w.pinned ≡ Some p → IsRightful w
right_pinned v w p a some is = (λ e. absurd (some (sym a.share ∙ e)), λ e. absurd (none_some p (sym e ∙ is)))

pub right_free : (v w : View) → IsAlike v w → w.pinned ≡ v.pinned → w.own ≡ None → IsRightful v → IsRightful w
right_free v w a pin own h = (λ e. let r = h.0 (sym a.share ∙ e) in (pin ∙ r.0, own, a.role ∙ r.2), λ _. own)

pub right_owner : (v w : View) (o : OwnRow) → IsAlike v w → w.pinned ≡ v.pinned → v.own ≡ Some o → IsRightful v → IsRightful w
right_owner v w o a pin own h = (λ e. absurd (none_some o (sym (h.0 (sym a.share ∙ e)).1 ∙ own)), λ e. absurd (none_some o (sym (h.1 (sym pin ∙ e)) ∙ own)))
