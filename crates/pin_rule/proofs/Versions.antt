-- The live versions by their numbers and pages.
use Rattle.std.proofs.Common.{◌≡◌, ◌≢◌, ℕ, suc, ◌<◌, ◌≤◌, List, length, map, take, ◌++◌, inl, inr, ◌⊎◌, ne_eqb, eq-eqb, sym, refl, ap, ◌∙◌, subst, arith}
use mathlib.Core.Option as maybe
use mathlib.Core.Bool.{cond}
use mathlib.Core.Logic.{dite}
use native.Mathlib.Decide.{ℕ_discrete}
use lib.ListN.{get_elem?}
use Rattle.std.specs.Prelude.{Some, None, Option}
use Rattle.pin_rule.specs.declared.sizes.Sizes.{Sizes}
use Rattle.pin_rule.specs.declared.content.Entry.{Entry}
use Rattle.pin_rule.specs.declared.view.View.{View}
use Rattle.pin_rule.specs.declared.view.Pin.{Pin}
use Rattle.pin_rule.specs.declared.view.Live.{Live}
use Rattle.pin_rule.specs.declared.view.Older.{Older}
use Rattle.pin_rule.specs.declared.view.Role.{Role}
use Rattle.pin_rule.specs.declared.view.GivingUp.{GivingUp}
use Rattle.pin_rule.specs.declared.view.Making.{Making}
use Rattle.pin_rule.specs.Lists.{In}
use Rattle.pin_rule.specs.Views.{
  lives,
  IsLiveVersion,
  given_page,
  pages_taken,
  Names,
  IsCaughtUp,
  now,
  if_at,
  version_given_up,
  version_of_role,
  version_pinned,
  version_at,
}
use Rattle.pin_rule.specs.PartLive.{IsVersions, HasTaken}
use Rattle.pin_rule.specs.Lawful.{Lawful}
use Rattle.pin_rule.proofs.Lists.{in_at, in_mapped, in_right, take_prefix}
use Rattle.pin_rule.proofs.Seats.{none_some, same_some}

pub newest_live : (role : Role) → IsLiveVersion role role.newest
newest_live role = inl refl

module _ (z : Sizes) (role : Role) (h : IsVersions z role) where
  pub live_version : (l : Live) → IsLiveVersion role l → l.version ≤ role.newest.version
  live_version l i = let r = in_at l (lives role) i in let e = h.consecutive r.0 l r.1 in omega arith

  -- a version has one page
  pub same_live : (a b : Live) → IsLiveVersion role a → IsLiveVersion role b → a.version ≡ b.version → a ≡ b
  same_live a b i j e = let r = in_at a (lives role) i in let s = in_at b (lives role) j in let x = h.consecutive r.0 a r.1 in
      let y = h.consecutive s.0 b s.1 in let same : r.0 ≡ s.0 = omega arith in
      maybe.some-injective a b (sym r.1 ∙ ap (get_elem? (lives role)) same ∙ s.1)

  pub taken_live : (taken : ℕ) (l : Live) (t : ℕ) → HasTaken role taken l t → IsLiveVersion role l
  taken_live taken l t h = elim h [
    | inl x ↦ inl x.0
    | inr x ↦ inr (subst (λ (m : Live). In m (map (λ (o : Older). o.live) role.older)) x.2
        (in_mapped (λ (o : Older). o.live) x.0 role.older x.1))
  ]

  -- an older version is not the newest
  pub older_below : (o : Older) → In o role.older → o.live.version < role.newest.version
  older_below o i = let r = in_at o.live (map (λ (x : Older). x.live) role.older) (in_mapped (λ (x : Older). x.live) o role.older i) in
      let e = h.consecutive (suc r.0) o.live r.1 in omega arith

  -- the page in the making is that of no live version
  pub making_apart : (m : Making) (l : Live) → role.making ≡ Some m → IsLiveVersion role l → l.page ≢ m.page
  making_apart m l is i e = h.making m is (subst (λ (page : ℕ). In page (pages_taken role)) e
      (in_right l.page (given_page role.giving_up) (map (λ (x : Live). x.page) (lives role)) (in_mapped (λ (x : Live). x.page) l (lives role) i)))

  -- nor that of the version that is being given up
  pub given_apart : (m : Making) (g : GivingUp) → role.making ≡ Some m → role.giving_up ≡ Some g → g.page ≢ m.page
  given_apart m g is up e = let ls = map (λ (x : Live). x.page) (lives role) in h.making m is (subst (λ (page : ℕ). In page (pages_taken role)) e
      (subst (λ (o : Option GivingUp). In g.page (given_page o ++ ls)) (sym up) (inl refl)))

  -- the version that is being given up is not live
  pub given_old : (g : GivingUp) (l : Live) → role.giving_up ≡ Some g → IsLiveVersion role l → g.version ≢ l.version
  given_old g l is i e = let b = (h.given_up g is).below l i in omega arith

-- the version is none above the newest, and if it is live or being given up this is its page
abbrev pub Speaks : Role → ℕ → ℕ → Type 0
Speaks role page m = (m ≤ role.newest.version) × ((l : Live) → IsLiveVersion role l → l.version ≡ m → l.page ≡ page) ×
    ((g : GivingUp) → role.giving_up ≡ Some g → g.version ≡ m → g.page ≡ page)

pub if_at_is : (page at version : ℕ) (else_ : Option ℕ) (m : ℕ) → if_at page at version else_ ≡ Some m → ((at ≡ page) × (version ≡ m)) ⊎ (else_ ≡ Some m)
if_at_is page at version else_ m e = dite (ℕ_discrete at page)
    (λ same. inl (same, same_some version m (sym (ap (λ b. cond b (Some version) else_) (eq-eqb at page same)) ∙ e)))
    (λ n. inr (sym (ap (λ b. cond b (Some version) else_) (ne_eqb at page n)) ∙ e))

module _ (z : Sizes) (role : Role) (h : IsVersions z role) where
  pub names_speaks : (p : Pin) (page m : ℕ) → Names role p → p.page ≡ page → p.version ≡ m → Speaks role page m
  names_speaks p page m k at is = let l0 = k.0 in let top = live_version z role h l0 k.1 in let e0 = k.2 in (
    (let r : m ≤ role.newest.version = omega arith in r),
    λ l i e. ap (λ (x : Live). x.page) (same_live z role h l l0 i k.1 (e ∙ sym is ∙ sym e0)) ∙ k.3
        ∙ at,
    λ g up e. absurd (given_old z role h g l0 up k.1 (e ∙ sym is ∙ sym e0)),
  )

  given_speaks : (o : Option GivingUp) (page m : ℕ) → role.giving_up ≡ o → version_given_up o page ≡ Some m → Speaks role page m
  given_speaks None page m is e = absurd (none_some m e)
  given_speaks (Some g) page m is e = elim (if_at_is page g.page g.version None m e) [
    | inl t ↦ (
      (let b = (h.given_up g is).below role.newest (newest_live role) in let x = t.1 in let r : m ≤ role.newest.version = omega arith in r),
      λ l i is_m. absurd (given_old z role h g l is i (t.1 ∙ sym is_m)),
      λ k up _. ap (λ (x : GivingUp). x.page) (same_some k g (sym up ∙ is)) ∙ t.0,
    )
    | inr t ↦ absurd (none_some m t)
  ]

  role_speaks : (o : Option Role) (page m : ℕ) → ((r : Role) → o ≡ Some r → r ≡ role) → version_of_role o page ≡ Some m → Speaks role page m
  role_speaks None page m is e = absurd (none_some m e)
  role_speaks (Some r) page m is e = let same = is r refl in
      subst (λ (x : Role). (version_of_role (Some x) page ≡ Some m) → Speaks role page m) (sym same)
      (λ e'. elim (if_at_is page role.newest.page role.newest.version (version_given_up role.giving_up page) m e') [
        | inl t ↦ (
          (let x = t.1 in let r : m ≤ role.newest.version = omega arith in r),
          λ l i is_m. ap (λ (x : Live). x.page) (same_live z role h l role.newest i (newest_live role) (is_m ∙ sym t.1)) ∙ t.0,
          λ g up is_m. absurd (given_old z role h g role.newest up (newest_live role) (is_m ∙ sym t.1)),
        )
        | inr t ↦ given_speaks role.giving_up page m refl t
      ]) e

  pinned_speaks : (o : Option Pin) (r : Option Role) (page m : ℕ) → ((p : Pin) → o ≡ Some p → Names role p) → ((x : Role) → r ≡ Some x → x ≡ role)
      → version_pinned o (version_of_role r page) page ≡ Some m → Speaks role page m
  pinned_speaks None r page m names is e = role_speaks r page m is e
  pinned_speaks (Some p) r page m names is e = elim (if_at_is page p.page p.version (version_of_role r page) m e) [
    | inl t ↦
        names_speaks p page m (names p refl) t.0 t.1
    | inr t ↦ role_speaks r page m is t
  ]

module _ (L : List Entry → Type 0) (F : List Entry → List ℕ → Type 0) (z : Sizes) (words : List ℕ) (views : List View) (id : ℕ) (v : View)
    (at : get_elem? views id ≡ maybe.some v) (h : Lawful L F z words views) where
  pub is_role : (r : Role) → v.role ≡ Some r → r ≡ h.role
  is_role r e = let k = h.editor in let seat = k.one id v r at e in
      let same : v ≡ k.view = maybe.some-injective v k.view (sym at ∙ ap (get_elem? views) seat ∙ k.at) in
      same_some r h.role (sym e ∙ ap (λ (u : View). u.role) same ∙ k.has)

  pub log_of_editor : (r : Role) → v.role ≡ Some r → v.log ≡ h.log
  log_of_editor r e = let k = h.editor in let seat = k.one id v r at e in
      let same : v ≡ k.view = maybe.some-injective v k.view (sym at ∙ ap (get_elem? views) seat ∙ k.at) in
      ap (λ (u : View). u.log) same ∙ k.log_is

  -- the editor's log is as long as the log
  pub editor_log : (r : Role) → v.role ≡ Some r → now v ≡ length h.log
  editor_log r e = ap length (log_of_editor r e)

  pub speaks : (page m : ℕ) → version_at v page ≡ Some m → Speaks h.role page m
  speaks page m e = pinned_speaks z h.role h.live v.pinned v.role page m (h.pinned id v at) is_role e

  -- the log up to the version of the view's log is the view's log
  pub my_log : take (now v) h.log ≡ v.log
  my_log = let p = (h.logs id v at).prefix in ap (take (now v)) p.1 ∙ take_prefix v.log p.0

  -- a view that has caught up speaks of a live version
  pub caught_up : IsCaughtUp v → (l : Live) × IsLiveVersion h.role l × (l.version ≡ now v)
  caught_up c = elim c [
    | inl t ↦ let k = h.pinned id v at t.0 t.1 in (k.0, k.1, k.2 ∙ t.2)
    | inr t ↦ (h.role.newest, newest_live h.role, sym h.current.version ∙ sym (editor_log t.0 t.1))
  ]
