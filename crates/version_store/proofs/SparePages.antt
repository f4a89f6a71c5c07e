-- The least page that no live version has, as it is noted.
use Rattle.std.proofs.Common.{◌≡◌, ℕ, suc, ◌+◌, ◌<◌, List, [], ◌∷◌, ◌++◌, map, length, refl, sym, ap, ◌∙◌, subst, arith}
use Rattle.std.specs.Prelude.{None}
use Rattle.pin_rule.specs.declared.view.Live.{Live}
use Rattle.pin_rule.specs.declared.view.Older.{Older}
use Rattle.pin_rule.specs.declared.view.Role.{Role}
use Rattle.pin_rule.specs.Lists.{In}
use Rattle.pin_rule.specs.Views.{lives, given_page, pages_taken}
use Rattle.pin_rule.specs.Making.{spare_page}
use Rattle.pin_rule.proofs.Spare.{spare_is}
use Rattle.version_store.specs.declared.live_version.LiveVersion.{LiveVersion}
use Rattle.version_store.specs.declared.live_version.OlderVersion.{OlderVersion}
use Rattle.version_store.specs.declared.lives.Lives.{Lives}
use Rattle.version_store.specs.LivePages.{pages_noted}
use Rattle.version_store.specs.Notes.{IsNotedIn}
use Rattle.version_store.proofs.Noting.{noted_live, live_is_noted, many_noted}

mapped_length : {A B : Type 0} (f : A → B) (xs : List A) → length (map f xs) ≡ length xs
mapped_length f [] = refl
mapped_length f (x ∷ xs) = ap suc (mapped_length f xs)

module _ (r : Role) (l : Lives) (h : IsNotedIn r l) (idle : r.giving_up ≡ None) where
  taken_is : pages_taken r ≡ map (λ (k : Live). k.page) (lives r)
  taken_is = ap (λ o. given_page o ++ map (λ (k : Live). k.page) (lives r)) idle

  to_noted : (page : ℕ) → In page (pages_taken r) → In page (pages_noted l.newest l.older.items)
  to_noted page i = subst (λ (t : LiveVersion × List OlderVersion). In page (pages_noted t.0 t.1)) (λ k. (h.newest_is k, h.older_is k))
      (live_is_noted r.newest r.older page (subst (In page) taken_is i))

  from_noted : (page : ℕ) → In page (pages_noted l.newest l.older.items) → In page (pages_taken r)
  from_noted page i = subst (In page) (sym taken_is) (noted_live r.newest r.older page
      (subst (λ (t : LiveVersion × List OlderVersion). In page (pages_noted t.0 t.1)) (λ k. (sym h.newest_is k, sym h.older_is k)) i))

  pub spare : (page : ℕ) → ¬ (In page (pages_noted l.newest l.older.items)) → ((i : ℕ) → i < page → In i (pages_noted l.newest l.older.items))
      → spare_page r ≡ page
  spare page out below = spare_is r page (λ i. out (to_noted page i)) (λ i lt. from_noted i (below i lt))

  pub older_many : length l.older.items ≡ length r.older
  older_many = sym (ap length h.older_is) ∙ many_noted r.older

  pub few_taken : length (pages_taken r) ≡ length r.older + 1
  few_taken = ap length taken_is ∙ (let a = mapped_length (λ (k : Live). k.page) (lives r) in let b = mapped_length (λ (o : Older). o.live) r.older in
      omega arith)
