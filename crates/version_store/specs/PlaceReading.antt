-- What the reading of one place of the page does to the editor's view.
use Rattle.std.specs.Prelude.{◌≡◌, ℕ, suc, List, Option, Some, None}
use Rattle.pin_rule.specs.declared.view.View.{View}
use Rattle.pin_rule.specs.declared.view.KnownPlace.{KnownPlace}
use Rattle.pin_rule.specs.Lists.{In}
use Rattle.pin_rule.specs.Views.{whole}
use Rattle.version_store.specs.declared.current.Current.{Current}
use Rattle.version_store.specs.Rows.{Found, IsWholeRow}
use Rattle.version_store.specs.Edits.{place_loads}
use Rattle.version_store.specs.Learning.{Grown, Shows}
use Rattle.version_store.specs.Stages.{Goes}

-- the word that a place has
abbrev pub word_of_found : Option Found → ℕ
word_of_found None = 0
word_of_found (Some f) = suc f.row

-- with the whole share, where the place was known before
pub record KnewPlace (ks ls : List KnownPlace) (place : ℕ) (x : Option Found) : Type 0 where
  pub grown : Grown ks ls
  pub met : (k : KnownPlace) → In k ks → k.place ≡ place → k.met ≡ word_of_found x
  pub shows : (f : Found) → x ≡ Some f → Shows ls f.row f.words

pub record ReadsPlace (c : Current) (v w : View) (place : ℕ) (x : Option Found) : Type 0 where
  pub goes : Goes v w (place_loads c.sizes c.page place x)
  pub role : w.role ≡ v.role
  pub is_whole : (f : Found) → x ≡ Some f → IsWholeRow f.words
  pub knew : v.share ≡ whole → ((k : KnownPlace) × In k v.known × (k.place ≡ place)) → KnewPlace v.known w.known place x
