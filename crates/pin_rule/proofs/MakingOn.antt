-- The rule after a step of the editor that changes only what is in the making.
use Rattle.std.proofs.Common.{◌≡◌, ℕ, suc, ◌<◌, List, inl, inr, length, set, slice_index, sym, ◌∙◌, subst}
use mathlib.Core.Option as maybe
use lib.ListN.{get_elem?}
use Rattle.std.specs.Prelude.{Some}
use Rattle.atomic_table.proofs.Lists.{at_set}
use Rattle.pin_rule.specs.declared.sizes.Sizes.{Sizes}
use Rattle.pin_rule.specs.declared.content.Entry.{Entry}
use Rattle.pin_rule.specs.declared.view.View.{View}
use Rattle.pin_rule.specs.declared.view.Making.{Making}
use Rattle.pin_rule.specs.declared.view.Role.{Role}
use Rattle.pin_rule.specs.Layout.{release, claim, row_at}
use Rattle.pin_rule.specs.Rows.{content_of}
use Rattle.pin_rule.specs.Lists.{In}
use Rattle.pin_rule.specs.Views.{EachView, pages_taken}
use Rattle.pin_rule.specs.Pages.{IsHeld}
use Rattle.pin_rule.specs.PartCurrent.{IsCurrent, IsNextLog, KnowsLog}
use Rattle.pin_rule.specs.PartLive.{IsEditor, PinsLive}
use Rattle.pin_rule.specs.PartClaims.{Claims}
use Rattle.pin_rule.specs.PartFacts.{EntryStands, WordStands, Knows, KnowsWhole}
use Rattle.pin_rule.specs.PartShares.{IsRightful}
use Rattle.pin_rule.specs.Lawful.{Lawful, IsMeasured}
use Rattle.pin_rule.proofs.Lists.{each_map, total_alike}
use Rattle.pin_rule.proofs.Frames.{Same}
use Rattle.pin_rule.proofs.Seats.{IsSteady, same_some, each_set, here, owned_before, owned_after, claims_by}
use Rattle.pin_rule.proofs.Versions.{log_of_editor}
use Rattle.pin_rule.proofs.Parts.{Kept, pages_move, carried_moves, knows_on, known_on, claims_keep}
use Rattle.pin_rule.proofs.Settling.{knows_log, pins_stay, budget_stays}

-- the role with this in the making
abbrev pub role_making : Role → Making → Role
role_making role m = record role { making = Some m }

module _ (z : Sizes) (words : List ℕ) (role : Role) (m : Making) where
  claims_making : (views : List View) → Claims z words views role → Claims z words views (role_making role m)
  claims_making views c = record {
    bit = c.bit;
    in_use = c.in_use;
    owned = λ i o x. let q = c.owned i o x in record {
      in_range = q.in_range;
      in_use = q.in_use;
      in_no_page = q.in_no_page;
      not_to_free = q.not_to_free;
      written = q.written;
    };
    one_owner = c.one_owner;
    to_free = c.to_free;
  }

  knows_making : (v : View) → Knows z words role v → Knows z words (role_making role m) v
  knows_making v k = (
    each_map (EntryStands z words role) (EntryStands z words (role_making role m))
        (λ e x. record { known = x.known; live = x.live; given_up = x.given_up }) v.entries k.0,
    each_map (WordStands z words role) (WordStands z words (role_making role m)) (λ w x. record { known = x.known; live = x.live }) v.words k.1,
  )

module _ (L : List Entry → Type 0) (F : List Entry → List ℕ → Type 0) (z : Sizes) (words words' : List ℕ) (views : List View) (id : ℕ) (v w : View)
    (at : get_elem? views id ≡ maybe.some v) (h : Lawful L F z words views) (m : Making) where
  -- what the step leaves
  pub record Leaves : Type 0 where
    pub long : length words' ≡ length words
    pub releases : (page : ℕ) → page < z.versions → release z words' page ≡ release z words page
    pub claims : (r : ℕ) → r < z.rows → claim z words' r ≡ claim z words r
    pub rows : (r : ℕ) → r < z.rows → Same z.width (row_at z words r) (row_at z words' r)
    pub kept : Kept z words words' h.role

  -- what the view keeps
  pub record Remains : Type 0 where
    pub sizes : w.sizes ≡ v.sizes
    pub share : w.share ≡ v.share
    pub own : w.own ≡ v.own
    pub steady : IsSteady v w
    pub knows : Knows z words h.role w
    pub whole : KnowsWhole z words h.role w
    pub right : IsRightful w

  -- what is in the making afterwards
  pub record Made : Type 0 where
    pub was : v.role ≡ Some h.role
    pub is : w.role ≡ Some (role_making h.role m)
    pub current : IsCurrent L z words' h.log (role_making h.role m) h.taken
    pub room : length (pages_taken h.role) < z.versions
    pub apart : ¬ (In m.page (pages_taken h.role))
    pub keeps : (next : List Entry) (place row : ℕ) → IsNextLog h.log m.entry next → place < length m.places → slice_index m.places place ≡ suc row
        → IsHeld z words' h.role.newest.page row × F next (content_of (row_at z words' row))

  module _ (leaves : Leaves) (remains : Remains) (made : Made) where
    editor' : IsEditor (set views id w) h.log (role_making h.role m)
    editor' = record {
      seat = id;
      view = w;
      at = here views id v w at;
      has = made.is;
      log_is = remains.steady.log ∙ log_of_editor L F z words views id v at h h.role made.was;
      one = λ i u r e is. elim (at_set views id i w u e) [
        | inl t ↦ t.0
        | inr t ↦ h.editor.one i u r t.1 is ∙ sym (h.editor.one id v h.role at made.was)
      ];
    }

    claims' : Claims z words' (set views id w) (role_making h.role m)
    claims' = claims_making z words' h.role m (set views id w)
        (claims_by z words' h.role views (set views id w) (owned_before views id v w at remains.own) (owned_after views id v w at remains.own)
        (claims_keep z words words' h.role F h.log h.live h.pages leaves.kept views leaves.claims leaves.rows h.claims))

    facts' : EachView (set views id w) (Knows z words' (role_making h.role m))
    facts' = let on : (u : View) → Knows z words h.role u → Knows z words' (role_making h.role m) u = λ u k. knows_making z words' h.role m u
        (knows_on z words words' h.role F h.log h.live h.pages leaves.kept u k) in
        each_set views id v w at (Knows z words' (role_making h.role m)) (on w remains.knows) (λ j u e. on u (h.facts j u e))

    known' : EachView (set views id w) (KnowsWhole z words' (role_making h.role m))
    known' = let on = known_on z words words' h.role F h.log h.live h.pages leaves.kept in
        each_set views id v w at (KnowsWhole z words' (role_making h.role m)) (on w remains.whole) (λ j u e. on u (h.known j u e))

    pub makes : Lawful L F z words' (set views id w)
    makes = let pins = pins_stay L F z words words' views id v w at h remains.steady.pinned leaves.releases in
        let carried = carried_moves z words words' h.role F h.log h.live h.pages leaves.kept h.carried in record {
          long = leaves.long ∙ h.long;
          sizes = each_set views id v w at (IsMeasured z) (λ n. remains.sizes ∙ h.sizes id v at (λ e. n (remains.share ∙ e))) h.sizes;
          log = h.log;
          role = role_making h.role m;
          taken = h.taken;
          editor = editor';
          current = made.current;
          logs = each_set views id v w at (KnowsLog h.log) (knows_log h.log v w remains.steady.log remains.steady.log_words (h.logs id v at)) h.logs;
          live = record {
            consecutive = h.live.consecutive;
            few = h.live.few;
            page_in = h.live.page_in;
            pages_differ = h.live.pages_differ;
            room = λ _ _. made.room;
            making = λ m' is. subst (λ (x : Making). ¬ (In x.page (pages_taken h.role))) (same_some m m' is) made.apart;
            given_up = λ g is. let b = h.live.given_up g is in record { below = b.below; page_in = b.page_in; apart = b.apart; reached_in = b.reached_in };
          };
          pinned = each_set views id v w at (PinsLive h.role) (λ p e. h.pinned id v at p (sym remains.steady.pinned ∙ e)) h.pinned;
          pins = record { counted = pins.counted; from_base = pins.from_base; released = pins.released };
          budget = budget_stays L F z words words' views id v w at h remains.steady.pinned leaves.releases remains.steady.pins_left;
          pages = pages_move z words words' h.role F h.log h.live h.pages leaves.kept;
          claims = claims';
          carried = record {
            between = carried.between;
            after_left = carried.after_left;
            range = carried.range;
            once = carried.once;
            stands = carried.stands;
            kept = λ m' next place row is to lt e. let same : m' ≡ m = sym (same_some m m' is) in
                made.keeps next place row (subst (λ (x : Making). IsNextLog h.log x.entry next) same to)
                (subst (λ (x : Making). place < length x.places) same lt)
                (subst (λ (x : Making). slice_index x.places place ≡ suc row) same e);
          };
          facts = facts';
          shares = record {
            sum = total_alike (λ (u : View). u.share) views id v w at remains.share ∙ h.shares.sum;
            rightful = each_set views id v w at IsRightful remains.right h.shares.rightful;
          };
          known = known';
        }
