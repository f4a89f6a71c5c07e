-- A pin that is taken, and one that is dropped, keep the rule.
use Rattle.std.proofs.Common.{◌≡◌, ◌≢◌, ℕ, ◌+◌, ◌<◌, ◌≤◌, List, inl, inr, slice_index, set, length, length-set, sym, refl, ap, ◌∙◌, subst, arith}
use mathlib.Core.Option as maybe
use mathlib.Core.Logic.{dite}
use native.Mathlib.Decide.{ℕ_discrete}
use lib.ListN.{get_elem?}
use Rattle.std.specs.Prelude.{Some, None}
use Rattle.pin_rule.specs.declared.sizes.Sizes.{Sizes}
use Rattle.pin_rule.specs.declared.content.Entry.{Entry}
use Rattle.pin_rule.specs.declared.view.View.{View}
use Rattle.pin_rule.specs.declared.view.Pin.{Pin}
use Rattle.pin_rule.specs.declared.view.Live.{Live}
use Rattle.pin_rule.specs.declared.ops.Op.TheVariants as op
use Rattle.pin_rule.specs.Layout.{release_word, word_count, version_named, page_named, release, claim, entry, logged, row_at}
use Rattle.pin_rule.specs.PartCurrent.{KnowsLog, current_of}
use Rattle.pin_rule.specs.PartShares.{IsRightful}
use Rattle.pin_rule.specs.PartLive.{PinsLive, Pins, Budget, pins_on, one_pin, pins_of, pinning}
use Rattle.pin_rule.specs.PartFacts.{Knows, KnowsWhole}
use Rattle.pin_rule.specs.Lawful.{Lawful}
use Rattle.pin_rule.specs.Ops.{one_more}
use Rattle.pin_rule.specs.Steps.{pin_of, after_pin, after_unpin}
use Rattle.pin_rule.specs.Keeps.{Keeps}
use Rattle.pin_rule.proofs.Lists.{total_set, sum_same, sum_more}
use Rattle.pin_rule.proofs.Frames.{wrote, release_in, cur-release, cur-claim, cur-entry, cur-logged, cur-row, release-cur, release-release, release-claim}
use Rattle.pin_rule.proofs.Frames.{release-entry, release-logged, release-row}
use Rattle.pin_rule.proofs.Seats.{IsAlike, none_some, same_some, each_set, owned_before, owned_after, claims_by}
use Rattle.pin_rule.proofs.Versions.{newest_live, older_below, same_live, taken_live}
use Rattle.pin_rule.proofs.Parts.{Kept, current_moves, pages_move, carried_moves, knows_on, known_on, claims_keep}
use Rattle.pin_rule.proofs.Settling.{builds, right_pinned}
use Rattle.pin_rule.proofs.Numbers.{no_carry, room_above}
use Rattle.pin_rule.proofs.Counts.{pins_here, pins_else, few_taken, few_dropped}
use Rattle.pin_rule.proofs.Telling.{names_newest}

-- words of the other parts are as they were
pub record Elsewhere (z : Sizes) (words words' : List ℕ) : Type 0 where
  pub claims : (r : ℕ) → claim z words' r ≡ claim z words r
  pub entries : (page p : ℕ) → entry z words' page p ≡ entry z words page p
  pub logs : (e i : ℕ) → logged z words' e i ≡ logged z words e i
  pub rows : (r i : ℕ) → row_at z words' r i ≡ row_at z words r i

-- a word of CUR or of the releases was written, and the seat has another pin
module _ (L : List Entry → Type 0) (F : List Entry → List ℕ → Type 0) (z : Sizes) (words words' : List ℕ) (views : List View) (id : ℕ) (v w : View)
    (at : get_elem? views id ≡ maybe.some v)
    (h : Lawful L F z words views) (long : length words' ≡ length words) (alike : IsAlike v w) (right : IsRightful w) (else_ : Elsewhere z words words') where
  kept : Kept z words words' h.role
  kept = record {
    places = λ l p _ _. else_.entries l.page p;
    in_use = λ r _ c _. else_.claims r
        ∙ c;
    rows = λ r _ _ _ i _. sym (else_.rows r i);
    given = λ g p _ _. else_.entries g.page p;
  }

  pub repins : (taken : ℕ) → slice_index words' 0 ≡ current_of h.role taken → w.own ≡ v.own → (w.log ≡ v.log) → KnowsLog h.log w → Knows z words h.role w
      → KnowsWhole z words h.role w
      → PinsLive h.role w → Pins z words' (set views id w) h.role taken → Budget z words' (set views id w) → Lawful L F z words' (set views id w)
  repins taken cur same_own same_log log knows whole pinned pins budget = builds L F z words words' views id v w at h long alike right taken (λ _ _. same_log)
      (current_moves z words words' h.role L h.log h.taken taken (record {
        logs = λ e i _ _. else_.logs e i;
        made =
            λ m p _ _ _. else_.entries m.page p;
      }) cur h.current)
      log pinned pins budget
      (claims_by z words' h.role views (set views id w) (owned_before views id v w at same_own) (owned_after views id v w at same_own)
      (claims_keep z words words' h.role F h.log h.live h.pages kept views (λ r _. else_.claims r) (λ r _ i _. sym (else_.rows r i)) h.claims))
      (pages_move z words words' h.role F h.log h.live h.pages kept)
      (carried_moves z words words' h.role F h.log h.live h.pages kept h.carried)
      (let on = knows_on z words words' h.role F h.log h.live h.pages kept in each_set views id v w at (Knows z words' h.role) (on w knows)
      (λ j u e. on u (h.facts j u e)))
      (let on = known_on z words words' h.role F h.log h.live h.pages kept in each_set views id v w at (KnowsWhole z words' h.role) (on w whole)
      (λ j u e. on u (h.known j u e)))

module _ (L : List Entry → Type 0) (F : List Entry → List ℕ → Type 0) (v : View) (some : v.share ≢ 0) (free : v.pinned ≡ None) (left : 1 ≤ v.pins_left) where
  pub keeps_pin : Keeps L F v op.Pin
  keeps_pin words views id n h at e =
      let z = v.sizes in let w = after_pin v n in let x = one_more n in let words' = set words 0 x in let views' = set views id w in let role = h.role in
      let top = h.current.cur in let few = few_taken L F z words views h role.newest h.taken (inl (refl, refl)) in let most = z.pins_in in
      let page_in = h.live.page_in role.newest (newest_live role) in let pages = z.versions_in in let version = h.current.version in
      let log_in = h.current.log_in in let logs = z.log_in in
      let above = room_above role.newest.version role.newest.page h.taken (omega arith) (omega arith) (omega arith) in
      let plus : one_more n ≡ n + 1 = no_carry n (omega arith) in
      let some_words : 0 < word_count z = omega arith in
      let newest = names_newest L F z words views h in
      let same_version : version_named n ≡ role.newest.version = ap version_named (sym e) ∙ newest.0 in
      let same_page : page_named n ≡ role.newest.page = ap page_named (sym e) ∙ newest.1 in
      let alike : IsAlike v w = record { sizes = refl; share = refl; role = refl } in let my = h.logs id v at in
      repins L F z words words' views id v w at h (length-set words 0 x) alike (right_pinned v w (pin_of n) alike some refl)
      (record { claims = cur-claim z words x; entries = cur-entry z words x; logs = cur-logged z words x; rows = cur-row z words x })
      (h.taken + 1)
      (let a = wrote z words x 0 h.long some_words in let r : x ≡ current_of role (h.taken + 1) = omega arith in a ∙ r)
      refl refl (record { prefix = my.prefix; few = my.few; words = my.words }) (h.facts id v at) (h.known id v at)
      (λ p is. let s = same_some (pin_of n) p is in (
        role.newest,
        newest_live role,
        sym same_version ∙ ap (λ (q : Pin). q.version) s,
        sym same_page
            ∙ ap (λ (q : Pin). q.page) s,
      ))
      (record {
        counted = λ l t k. let f : ℕ → View → ℕ = λ version u. pins_on version u.pinned in elim k [
          | inl y ↦ subst (λ (m : Live). release z words' m.page + pinning views' m.version ≡ m.base + t) (sym y.0)
              (let c = h.pins.counted role.newest h.taken (inl (refl, refl)) in let a = total_set (f role.newest.version) views id v w at in let r =
              cur-release z words x role.newest.page in
              let none = ap (pins_on role.newest.version) free in let one = pins_here role.newest.version (pin_of n) same_version in let is = y.1 in
              omega arith)
          | inr y ↦ let c = h.pins.counted l t (inr y) in let a = total_set (f l.version) views id v w at in let r = cur-release z words x l.page in
              let none = ap (pins_on l.version) free in
              let below = older_below z role h.live y.0 y.1 in let is = ap (λ (m : Live). m.version) y.2 in
              let zero_more = pins_else l.version (pin_of n) (λ q. omega arith) in omega arith
        ];
        from_base = λ l i. let b = h.pins.from_base l i in let r = cur-release z words x l.page in omega arith;
        released = λ page inside none. cur-release z words x page ∙ h.pins.released page inside none;
      })
      (let b = h.budget in let s = sum_same z.versions (release z words') (release z words) (λ page _. cur-release z words x page) in let t =
      total_set pins_of views id v w at in let none = ap one_pin free in omega arith)

module _ (L : List Entry → Type 0) (F : List Entry → List ℕ → Type 0) (v : View) (p : Pin) (pinned : v.pinned ≡ Some p) (free : v.own ≡ None) where
  pub keeps_unpin : Keeps L F v (op.Unpin p.page)
  keeps_unpin words views id n h at e =
      let z = v.sizes in let w = after_unpin v p.page n in let x = one_more n in let i = release_word z p.page in let words' = set words i x in
      let views' = set views id w in let role = h.role in
      let l0 = h.pinned id v at p pinned in let my_page : p.page < z.versions = (let a = h.live.page_in l0.0 l0.1 in let b = l0.3 in omega arith) in
      let few = few_dropped L F z words views h p.page my_page in let most = z.pins_in in
      let plus : one_more n ≡ n + 1 = no_carry n (omega arith) in
      let more : release z words' p.page ≡ release z words p.page + 1 = wrote z words x i h.long (release_in z p.page my_page) ∙ plus ∙ ap (λ (m : ℕ). m + 1)
      (sym e) in
      let alike : IsAlike v w = record { sizes = refl; share = refl; role = refl } in let my = h.logs id v at in let right = h.shares.rightful id v at in
      repins L F z words words' views id v w at h (length-set words i x) alike (λ q. absurd (none_some p (sym (right.0 q).0 ∙ pinned)), λ _. free)
      (record {
        claims = λ r. release-claim z words x p.page r my_page;
        entries = λ page q. release-entry z words x p.page page q my_page;
        logs = λ a b. release-logged z words x p.page a b my_page;
        rows = λ r b. release-row z words x p.page r b my_page;
      })
      h.taken (release-cur z words x p.page ∙ h.current.cur) refl refl (record { prefix = my.prefix; few = my.few; words = my.words }) (h.facts id v at)
      (h.known id v at)
      (λ q is. absurd (none_some q is))
      (record {
        counted = λ l t k. let live = taken_live z role h.live h.taken l t k in let c = h.pins.counted l t k in
            let f : View → ℕ = λ u. pins_on l.version u.pinned in let a = total_set f views id v w at in
            let was = ap (pins_on l.version) pinned in dite (ℕ_discrete l.page p.page)
            (λ same. let is = same_live z role h.live l l0.0 live l0.1 (h.live.pages_differ l l0.0 live l0.1 (same ∙ sym l0.3)) in let one =
            pins_here l.version p (sym l0.2 ∙ ap (λ (m : Live). m.version) (sym is)) in
            let r0 = ap (release z words) same in let r1 = ap (release z words') same in omega arith)
            (λ other. let r = release-release z words x p.page l.page other in
            let zero_more = pins_else l.version p (λ q. other (ap (λ (m : Live). m.page) (same_live z role h.live l l0.0 live l0.1 (sym q ∙ sym l0.2))
            ∙ l0.3)) in omega arith);
        from_base = λ l i. let b = h.pins.from_base l i in dite (ℕ_discrete l.page p.page)
            (λ same. let r0 = ap (release z words) same in let r1 = ap (release z words') same in omega arith)
            (λ other. let r = release-release z words x p.page l.page other in omega arith);
        released = λ page inside none. release-release z words x p.page page (λ q. none l0.0 l0.1 (l0.3 ∙ sym q)) ∙ h.pins.released page inside none;
      })
      (let b = h.budget in let s = sum_more z.versions (release z words) (release z words') p.page my_page more
      (λ j _ q. release-release z words x p.page j q) in let t = total_set pins_of views id v w at in let one = ap one_pin pinned in omega arith)
