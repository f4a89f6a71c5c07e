-- A seat that does nothing at the moment.
use Rattle.std.specs.Prelude.{◌≡◌, [], None}
use Rattle.pin_rule.specs.declared.view.View.{View}

-- it pins nothing and owns no row, it is not the editor's, and it has read no part of an entry
pub record IsIdle (v : View) : Type 0 where
  pub unpinned : v.pinned ≡ None
  pub free : v.own ≡ None
  pub plain : v.role ≡ None
  pub whole_entries : v.log_words ≡ []
