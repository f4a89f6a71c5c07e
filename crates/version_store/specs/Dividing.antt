-- How passes are split off a hand, and the memory that is made for them.
use Rattle.std.specs.Prelude.{◌≡◌, ◌≢◌, ℕ, ◌+◌, ◌*◌, ◌≤◌, List, [], ◌++◌, length, replicate, vec_len, vec_capacity}
use Rattle.atomic_table.specs.Seated.{TableId}
use Rattle.pin_rule.specs.declared.sizes.Sizes.{Sizes}
use Rattle.pin_rule.specs.declared.view.View.{View}
use Rattle.pin_rule.specs.Lists.{Each, total}
use Rattle.pin_rule.specs.Steps.{was_split}
use Rattle.slot_store.specs.declared.pass.Pass.{Pass}
use Rattle.slot_store.specs.Means.{pass_of}
use Rattle.version_store.specs.declared.parting.Room.{Room}
use Rattle.version_store.specs.Meaning.{bench_meaning}
use Rattle.version_store.specs.Parts.{IsNewPass}

module _ {C : Type 0} where
  -- a buffer for each of so many passes, and a list with room for them
  pub record IsRoomFor (z : Sizes) (count : ℕ) (room : Room C) : Type 0 where
    pub none : room.passes.items ≡ []
    pub begun : vec_len room.passes ≡ 0
    pub wide : count ≤ vec_capacity room.passes
    pub many : vec_len room.buffers ≡ count
    pub each : Each (λ b. length b.items ≡ z.width) room.buffers.items

  -- w is v after so many passes with so many pins were split off
  pub record Divides (v w : View) (table : TableId × ℕ) (pins made : ℕ) (passes : List (Pass C)) : Type 0 where
    pub many : length passes ≡ made
    pub each : Each (λ (p : Pass C). IsNewPass (bench_meaning v table) pins (pass_of p)) passes
    pub pins_left : w.pins_left + made * pins ≡ v.pins_left
    pub shares : w.share + total (λ (p : Pass C). (pass_of p).share) passes ≡ v.share
    pub share : w.share ≢ 0
    pub sizes : w.sizes ≡ v.sizes
    pub log : w.log ≡ v.log
    pub log_words : w.log_words ≡ v.log_words
    pub pinned : w.pinned ≡ v.pinned
    pub own : w.own ≡ v.own
    pub role : w.role ≡ v.role
    pub steps : w.steps ≡ v.steps ++ replicate made was_split
