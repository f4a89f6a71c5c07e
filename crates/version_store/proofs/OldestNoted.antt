-- The oldest version, as it is noted and as the editor's role has it.
use Rattle.std.proofs.Common.{◌≡◌, ℕ, ◌<◌, List, [], ◌∷◌, ◌++◌, inl, inr, length, get_or, sym, refl, ap, ◌∙◌, subst, arith}
use Rattle.pin_rule.specs.declared.view.Live.{Live}
use Rattle.pin_rule.specs.declared.view.Older.{Older}
use Rattle.pin_rule.specs.declared.view.Role.{Role}
use Rattle.pin_rule.specs.Lists.{In}
use Rattle.pin_rule.specs.GivingUp.{last_of, last_live}
use Rattle.pin_rule.proofs.Oldest.{last_in}
use Rattle.version_store.specs.declared.live_version.LiveVersion.{LiveVersion}
use Rattle.version_store.specs.declared.live_version.OlderVersion.{OlderVersion}
use Rattle.version_store.specs.declared.lives.Lives.{Lives}
use Rattle.version_store.specs.LivePages.{older_noted, oldest_first, first_page, pages_noted}
use Rattle.version_store.specs.Notes.{IsNoted, IsNotedIn}
use Rattle.version_store.proofs.Noting.{some_older, first_is_last, oldest_page_is, many_noted}

-- none is older where none is noted
pub none_older : (older : List Older) → length (oldest_first older) ≡ 0 → older ≡ []
none_older [] e = refl
none_older (o ∷ os) e = let n = many_noted (o ∷ os) in absurd (omega arith)

first_noted : (older : List Older) (a : Older) (os : List Older) (xs : List OlderVersion) (x : OlderVersion) → older ≡ a ∷ os → oldest_first older ≡ xs
    → x ≡ get_or xs 0 x → x ≡ older_noted (last_of a os)
first_noted older a os xs x e is first = first ∙ ap (λ (l : List OlderVersion). get_or l 0 x) (sym is ∙ ap oldest_first e ∙ first_is_last a os)

pub first_in : (newest : LiveVersion) (xs : List OlderVersion) → In (first_page newest xs) (pages_noted newest xs)
first_in newest [] = inl refl
first_in newest (x ∷ xs) = inr (inl refl)

in_first : (newest : LiveVersion) (xs : List OlderVersion) (x : OlderVersion) → 0 < length xs → x ≡ get_or xs 0 x → In x.live.page (pages_noted newest xs)
in_first newest [] x lt e = absurd (omega arith)
in_first newest (y ∷ xs) x lt e = inr (inl (ap (λ (o : OlderVersion). o.live.page) e))

module _ (r : Role) (l : Lives) (h : IsNotedIn r l) (some : 0 < length l.older.items) (x : OlderVersion) (first : x ≡ get_or l.older.items 0 x) where
  pub parts : (a : Older) × (os : List Older) × (r.older ≡ a ∷ os)
  parts = some_older r.older (subst (λ (xs : List OlderVersion). 0 < length xs) (sym h.older_is) some)

  abbrev pub last : Older
  last = last_of parts.0 parts.1

  is_last : x ≡ older_noted (last_of parts.0 parts.1)
  is_last = first_noted r.older parts.0 parts.1 l.older.items x parts.2 h.older_is first

  pub page_is : (last_of parts.0 parts.1).live.page ≡ x.live.page
  page_is = sym (ap (λ (o : OlderVersion). o.live.page) is_last)

  pub version_is : (last_of parts.0 parts.1).live.version ≡ x.live.version
  version_is = sym (ap (λ (o : OlderVersion). o.live.version) is_last)

  pub base_is : (last_of parts.0 parts.1).live.base ≡ x.live.base
  base_is = sym (ap (λ (o : OlderVersion). o.live.base) is_last)

  pub taken_is : (last_of parts.0 parts.1).taken ≡ x.taken
  taken_is = sym (ap (λ (o : OlderVersion). o.taken) is_last)

  pub among : In (last_of parts.0 parts.1) r.older
  among = subst (In (last_of parts.0 parts.1)) (sym parts.2) (last_in parts.0 parts.1)

  pub page_in : x.live.page < l.sizes.versions
  page_in = l.pages_in x.live.page (in_first l.newest l.older.items x some first)

  -- the notes are of the role's versions, of which there are some
  pub noted_parts : IsNoted r.newest (parts.0 ∷ parts.1) r.released l
  noted_parts = subst (λ (os : List Older). IsNoted r.newest os r.released l) parts.2 h

-- the notes are of another role with the same versions
pub noted_for : (newest : Live) (older : List Older) (released : List (ℕ × ℕ)) (l : Lives) → IsNoted newest older released l → (r : Role)
    → r.newest ≡ newest → r.older ≡ older → r.released ≡ released → IsNotedIn r l
noted_for newest older released l h r a b d = subst (λ (t : Live × (List Older × List (ℕ × ℕ))). IsNoted t.0 t.1.0 t.1.1 l)
    (λ i. (sym a i, (sym b i, sym d i))) h

-- the page of the version that follows
pub next_page : (newest : Live) (older : List Older) (released : List (ℕ × ℕ)) (l : Lives) → IsNoted newest older released l
    → (last_live newest older).page ≡ first_page l.newest l.older.items
next_page newest older released l h = sym (oldest_page_is newest older) ∙ (λ i. first_page (h.newest_is i) (h.older_is i))

oldest_last : (rest : List Older) (o : Older) → oldest_first (rest ++ o ∷ []) ≡ older_noted o ∷ oldest_first rest
oldest_last [] o = refl
oldest_last (p ∷ ps) o = ap (λ (l : List OlderVersion). l ++ older_noted p ∷ []) (oldest_last ps o)

-- the first that is noted is the last of the older versions
pub noted_last : (older rest : List Older) (o : Older) (xs : List OlderVersion) (x : OlderVersion) → older ≡ rest ++ o ∷ [] → oldest_first older ≡ xs
    → x ≡ get_or xs 0 x → x ≡ older_noted o
noted_last older rest o xs x e is first = first ∙ ap (λ (l : List OlderVersion). get_or l 0 x) (sym is ∙ ap oldest_first e ∙ oldest_last rest o)
