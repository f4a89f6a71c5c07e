-- What a pinned hand means.
use Rattle.std.specs.Prelude.{◌≡◌, ℕ, List}
use Rattle.atomic_table.specs.Seated.{TableId}
use Rattle.pin_rule.specs.declared.view.View.{View}
use Rattle.pin_rule.specs.Hands.{view_of, table_of}
use Rattle.slot_store.specs.declared.pinned_hand.PinnedHand.{PinnedHand}
use Rattle.slot_store.specs.declared.site.Site.{Site}
use Rattle.slot_store.specs.Meaning.{Meaning, meaning_of}

module _ {C : Type 0} where
  abbrev pub view_in : PinnedHand C → View
  view_in p = view_of p.hand

  abbrev pub site_in : PinnedHand C → Site
  site_in p = p.site

  -- the table of the hand
  abbrev pub place_in : PinnedHand C → TableId × ℕ
  place_in p = table_of p.hand

  abbrev pub buffer_in : PinnedHand C → List ℕ
  buffer_in p = p.buffer.items

  abbrev pub meaning_in : PinnedHand C → Meaning
  meaning_in p = meaning_of (view_of p.hand) p.site.page (table_of p.hand)

  -- a hand of the same table, at the same page
  abbrev pub IsSameHand : PinnedHand C → PinnedHand C → Type 0
  IsSameHand p q = (table_of q.hand ≡ table_of p.hand) × (q.site ≡ p.site)
