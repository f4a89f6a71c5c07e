-- The rule after a step of the editor that goes on to the next place of the version that is being given up.
use Rattle.std.proofs.Common.{◌≡◌, ◌≢◌, ℕ, suc, ◌<◌, ◌≤◌, List, ◌∷◌, ◌++◌, map, inl, inr, length, set, eqb, eq-eqb, ne_eqb, sym, ap, ◌∙◌, subst}
use Rattle.std.proofs.Common.{arith}
use mathlib.Core.Option as maybe
use mathlib.Core.Bool.{cond}
use mathlib.Core.Logic.{dite}
use native.Mathlib.Decide.{ℕ_discrete}
use lib.ListN.{get_elem?}
use Rattle.std.specs.Prelude.{Some, None, Option, Bool, true, false}
use Rattle.atomic_table.proofs.Lists.{at_set}
use Rattle.pin_rule.specs.declared.sizes.Sizes.{Sizes}
use Rattle.pin_rule.specs.declared.content.Entry.{Entry}
use Rattle.pin_rule.specs.declared.view.View.{View}
use Rattle.pin_rule.specs.declared.view.Live.{Live}
use Rattle.pin_rule.specs.declared.view.Role.{Role}
use Rattle.pin_rule.specs.declared.view.GivingUp.{GivingUp}
use Rattle.pin_rule.specs.Layout.{entry}
use Rattle.pin_rule.specs.Lists.{In}
use Rattle.pin_rule.specs.Views.{lives, given_page, pages_taken}
use Rattle.pin_rule.specs.GivingUp.{next_place}
use Rattle.pin_rule.specs.Pages.{IsLeft, IsToFree}
use Rattle.pin_rule.specs.PartCurrent.{IsCurrent, KnowsLog}
use Rattle.pin_rule.specs.PartLive.{IsEditor, IsVersions, IsGivenUp, PinsLive}
use Rattle.pin_rule.specs.PartClaims.{Claims}
use Rattle.pin_rule.specs.PartCarried.{Carried}
use Rattle.pin_rule.specs.PartFacts.{HasEntry, EntryStands, WordStands, Knows, KnowsWhole}
use Rattle.pin_rule.specs.PartShares.{IsRightful}
use Rattle.pin_rule.specs.Lawful.{Lawful, IsMeasured}
use Rattle.pin_rule.proofs.Lists.{each_map, total_alike}
use Rattle.pin_rule.proofs.Seats.{IsSteady, none_some, same_some, each_set, here}
use Rattle.pin_rule.proofs.Versions.{log_of_editor}
use Rattle.pin_rule.proofs.Parts.{Quiet, Kept, current_moves, pages_move, carried_moves, knows_on, known_on}
use Rattle.pin_rule.proofs.Settling.{knows_log, pins_stay, budget_stays}

-- the version is given up from the next place on
abbrev pub role_next : Sizes → Role → GivingUp → Role
role_next z role g = record role { giving_up = next_place z g }

module _ (z : Sizes) (g : GivingUp) where
  abbrev pub gone_on : GivingUp
  gone_on = record g { reached = suc g.reached }

  pub next_is : (k : GivingUp) → next_place z g ≡ Some k → (suc g.reached ≢ z.places) × (gone_on ≡ k)
  next_is k is = dite (ℕ_discrete (suc g.reached) z.places)
      (λ e. absurd (none_some k (sym (ap (λ b. cond b None (Some gone_on)) (eq-eqb (suc g.reached) z.places e)) ∙ is)))
      (λ n. (n, same_some gone_on k (sym (ap (λ b. cond b None (Some gone_on)) (ne_eqb (suc g.reached) z.places n)) ∙ is)))

  pub next_some : suc g.reached ≢ z.places → next_place z g ≡ Some gone_on
  next_some n = ap (λ b. cond b None (Some gone_on)) (ne_eqb (suc g.reached) z.places n)

  -- what is left from the next place on was left before
  pub left_past : (words : List ℕ) (k : GivingUp) (row : ℕ) → next_place z g ≡ Some k → IsLeft z words k row
      → (place : ℕ) × (place < z.places) × (suc g.reached ≤ place) × (entry z words g.page place ≡ suc row)
  left_past words k row is x = subst (λ (o : GivingUp). IsLeft z words o row) (sym (next_is k is).1) x

  pub left_before : (words : List ℕ) (k : GivingUp) (row : ℕ) → next_place z g ≡ Some k → IsLeft z words k row → IsLeft z words g row
  left_before words k row is x = let p = left_past words k row is x in (p.0, p.1, (let later = p.2 in omega arith), p.3)

  pages_few : (b : Bool) (ls : List ℕ) → length (given_page (cond b None (Some gone_on)) ++ ls) ≤ suc (length ls)
  pages_few true ls = omega arith
  pages_few false ls = omega arith

  page_before : (b : Bool) (ls : List ℕ) (page : ℕ) → In page (given_page (cond b None (Some gone_on)) ++ ls) → In page (g.page ∷ ls)
  page_before true ls page i = inr i
  page_before false ls page i = i

  module _ (role : Role) (giving : role.giving_up ≡ Some g) where
    abbrev pages : List ℕ
    pages = map (λ (l : Live). l.page) (lives role)

    abbrev next : Role
    next = role_next z role g

    few_taken : length (pages_taken next) ≤ length (pages_taken role)
    few_taken = let a = pages_few (eqb (suc g.reached) z.places) pages in
        let b = ap (λ (o : Option GivingUp). length (given_page o ++ pages)) giving in omega arith

    taken_before : (page : ℕ) → In page (pages_taken next) → In page (pages_taken role)
    taken_before page i = subst (λ (o : Option GivingUp). In page (given_page o ++ pages)) (sym giving)
        (page_before (eqb (suc g.reached) z.places) pages page i)

    pub versions_next : IsVersions z role → IsVersions z next
    versions_next h = record {
      consecutive = h.consecutive;
      few = h.few;
      page_in = h.page_in;
      pages_differ = h.pages_differ;
      room = λ m is. let a = h.room m is in let b = few_taken in omega arith;
      making = λ m is i. h.making m is (taken_before m.page i);
      given_up = λ k is. let b = h.given_up g giving in let n = next_is k is in subst (IsGivenUp z next) n.1 (record {
        below = b.below;
        page_in = b.page_in;
        apart = b.apart;
        reached_in = (let before = b.reached_in in let more = n.0 in omega arith);
      });
    }

    pub free_before : (words : List ℕ) (row : ℕ) → IsToFree z words next row → IsToFree z words role row
    free_before words row t = (g, giving, left_before words t.0 row t.1 t.2, t.3)

    -- a row that is to be freed stands at the place that was reached, or is still to be freed
    pub free_after : (words : List ℕ) (row : ℕ) → IsToFree z words role row → ((entry z words g.page g.reached ≡ suc row) → ⊥) → IsToFree z words next row
    free_after words row t gone = let same : t.0 ≡ g = same_some t.0 g (sym t.1 ∙ giving) in
        let x = subst (λ (o : GivingUp). IsLeft z words o row) same t.2 in
        let later : g.reached ≢ x.0 = λ e. gone (ap (entry z words g.page) e ∙ x.3) in
        (gone_on, next_some (let lt = x.1 in let ge = x.2 in λ e. later (omega arith)), (x.0, x.1, (let ge = x.2 in omega arith), x.3), t.3)

    pub knows_next : (words : List ℕ) (v : View) → Knows z words role v → Knows z words next v
    knows_next words v k = (
      each_map (EntryStands z words role) (EntryStands z words next) (λ e x. record {
        known = x.known;
        live = x.live;
        given_up = λ o is same. let n = next_is o is in subst (λ (y : GivingUp). HasEntry z words role y.page e) n.1
            (x.given_up g giving (ap (λ (y : GivingUp). y.version) n.1 ∙ same));
      }) v.entries k.0,
      each_map (WordStands z words role) (WordStands z words next) (λ w x. record { known = x.known; live = x.live }) v.words k.1,
    )

    pub carried_next : (F : List Entry → List ℕ → Type 0) (words : List ℕ) (log : List Entry) → Carried F z words log role → Carried F z words log next
    carried_next F words log c = record {
      between = c.between;
      after_left = λ o b d row is ib id le x y. c.after_left g b d row giving ib id le (left_before words o row is x) y;
      range = λ o p row is pi e. c.range g p row giving pi (ap (λ (y : GivingUp). entry z words y.page p) (next_is o is).1 ∙ e);
      once = λ o p q row is pi qi ep eq. let n = (next_is o is).1 in c.once g p q row giving pi qi (ap (λ (y : GivingUp). entry z words y.page p) n ∙ ep)
          (ap (λ (y : GivingUp). entry z words y.page q) n ∙ eq);
      stands = c.stands;
      kept = c.kept;
    }

module _ (L : List Entry → Type 0) (F : List Entry → List ℕ → Type 0) (z : Sizes) (words words' : List ℕ) (views : List View) (id : ℕ) (v w : View)
    (at : get_elem? views id ≡ maybe.some v) (h : Lawful L F z words views) (g : GivingUp) (giving : h.role.giving_up ≡ Some g) where
  -- what the step leaves
  pub record Leaves : Type 0 where
    pub long : length words' ≡ length words
    pub quiet : Quiet z words words' h.role
    pub kept : Kept z words words' h.role

  -- what the view keeps
  pub record Remains : Type 0 where
    pub sizes : w.sizes ≡ v.sizes
    pub share : w.share ≡ v.share
    pub steady : IsSteady v w
    pub right : IsRightful w
    pub was : v.role ≡ Some h.role
    pub is : w.role ≡ Some (role_next z h.role g)

  module _ (leaves : Leaves) (remains : Remains) where
    abbrev role' : Role
    role' = role_next z h.role g

    editor' : IsEditor (set views id w) h.log role'
    editor' = record {
      seat = id;
      view = w;
      at = here views id v w at;
      has = remains.is;
      log_is = remains.steady.log ∙ log_of_editor L F z words views id v at h h.role remains.was;
      one = λ i u r e is. elim (at_set views id i w u e) [
        | inl t ↦ t.0
        | inr t ↦ h.editor.one i u r t.1 is ∙ sym (h.editor.one id v h.role at remains.was)
      ];
    }

    current' : IsCurrent L z words' h.log role' h.taken
    current' = let c = current_moves z words words' h.role L h.log h.taken h.taken leaves.quiet.log (leaves.quiet.cur ∙ h.current.cur) h.current in record {
      cur = c.cur;
      version = c.version;
      log_in = c.log_in;
      log_wide = c.log_wide;
      log_is = c.log_is;
      lawful_log = c.lawful_log;
      making = c.making;
      next_log = c.next_log;
    }

    facts' : (u : View) → Knows z words h.role u → Knows z words' role' u
    facts' u k = knows_next z g h.role giving words' u (knows_on z words words' h.role F h.log h.live h.pages leaves.kept u k)

    pub goes_on : Claims z words' (set views id w) role' → Knows z words h.role w → KnowsWhole z words h.role w → Lawful L F z words' (set views id w)
    goes_on claims knows whole = let pins = pins_stay L F z words words' views id v w at h remains.steady.pinned leaves.quiet.releases in
        let known = known_on z words words' h.role F h.log h.live h.pages leaves.kept in record {
          long = leaves.long ∙ h.long;
          sizes = each_set views id v w at (IsMeasured z) (λ n. remains.sizes ∙ h.sizes id v at (λ e. n (remains.share ∙ e))) h.sizes;
          log = h.log;
          role = role';
          taken = h.taken;
          editor = editor';
          current = current';
          logs = each_set views id v w at (KnowsLog h.log) (knows_log h.log v w remains.steady.log remains.steady.log_words (h.logs id v at)) h.logs;
          live = versions_next z g h.role giving h.live;
          pinned = each_set views id v w at (PinsLive h.role) (λ p e. h.pinned id v at p (sym remains.steady.pinned ∙ e)) h.pinned;
          pins = record { counted = pins.counted; from_base = pins.from_base; released = pins.released };
          budget = budget_stays L F z words words' views id v w at h remains.steady.pinned leaves.quiet.releases remains.steady.pins_left;
          pages = pages_move z words words' h.role F h.log h.live h.pages leaves.kept;
          claims = claims;
          carried = carried_next z g h.role giving F words' h.log (carried_moves z words words' h.role F h.log h.live h.pages leaves.kept h.carried);
          facts = each_set views id v w at (Knows z words' role') (facts' w knows) (λ j u e. facts' u (h.facts j u e));
          shares = record {
            sum = total_alike (λ (u : View). u.share) views id v w at remains.share ∙ h.shares.sum;
            rightful = each_set views id v w at IsRightful remains.right h.shares.rightful;
          };
          known = each_set views id v w at (KnowsWhole z words' role') (known w whole) (λ j u e. known u (h.known j u e));
        }
