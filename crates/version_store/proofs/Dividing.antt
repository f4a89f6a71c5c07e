-- A hand that is halved again and again keeps a share, and so do the passes that are split off.
use Rattle.std.proofs.Common.{◌≡◌, ◌≢◌, ℕ, zero, suc, ◌+◌, ◌*◌, ◌/◌, ◌<◌, ◌≤◌, List, [], ◌∷◌, ◌++◌, length-append, append_assoc, append-nil, sym, refl, ap}
use Rattle.std.proofs.Common.{◌∙◌, subst, arith}
use Rattle.std.proofs.Math.Nat.{mul-le-mul_right, suc-mul}
use Rattle.std.proofs.lemmas.List.{replicate_more}
use Rattle.std.specs.Prelude.{replicate}
use Rattle.atomic_table.specs.Seated.{TableId}
use Rattle.pin_rule.specs.declared.view.View.{View}
use Rattle.pin_rule.specs.declared.view.Step.{Step}
use Rattle.pin_rule.specs.Lists.{Each}
use Rattle.pin_rule.specs.Views.{whole}
use Rattle.pin_rule.specs.Steps.{was_split, after_split, split_off}
use Rattle.pin_rule.proofs.Lists.{each_append, total_append}
use Rattle.slot_store.specs.declared.pass.Pass.{Pass}
use Rattle.slot_store.specs.Idle.{IsIdle}
use Rattle.slot_store.specs.Meaning.{PassMeaning, pass_meaning}
use Rattle.slot_store.specs.Means.{pass_of}
use Rattle.version_store.specs.Meaning.{bench_meaning}
use Rattle.version_store.specs.Parts.{IsNewPass}
use Rattle.version_store.specs.Dividing.{Divides}

-- a share of so much can be halved this often
abbrev pub enough : ℕ → ℕ
enough zero = 1
enough (suc n) = 2 * enough n

positive : (n : ℕ) → 1 ≤ enough n
positive zero = omega arith
positive (suc n) = let h = positive n in omega arith

-- so many passes were split off, and more may be
pub record Halves {C : Type 0} (v w : View) (table : TableId × ℕ) (pins made : ℕ) (passes : List (Pass C)) : Type 0 where
  pub divides : Divides v w table pins made passes
  pub left : ℕ
  pub left_is : left + made ≡ 32
  pub enough_left : enough left ≤ w.share

last_of : {A : Type 0} (P : A → Type 0) (l : List A) (x : A) → Each P (l ++ x ∷ []) → Each P l × P x
last_of P [] x h = (tt, h.0)
last_of P (y ∷ l) x h = let r = last_of P l x h.1 in ((h.0, r.0), r.1)

pub begins : {C : Type 0} (v : View) (table : TableId × ℕ) (pins : ℕ) (passes : List (Pass C)) → passes ≡ [] → v.share ≡ whole → Halves v v table pins 0 passes
begins v table pins passes e all = subst (Halves v v table pins 0) (sym e) (record {
  divides = record {
    many = refl;
    each = tt;
    pins_left = omega arith;
    shares = (let n : ℕ = v.share in let r : n + 0 ≡ n = omega arith in r);
    share = λ none. omega arith;
    sizes = refl;
    log = refl;
    log_words = refl;
    pinned = refl;
    own = refl;
    role = refl;
    steps = sym (append-nil v.steps);
  };
  left = 32;
  left_is = refl;
  enough_left = omega arith;
})

-- a buffer less
pub buffer_in : {A : Type 0} (P : A → Type 0) (all l : List A) (x : A) → all ≡ l ++ x ∷ [] → Each P all → Each P l × P x
buffer_in P all l x e h = last_of P l x (subst (Each P) e h)

module _ {C : Type 0} (v w : View) (table : TableId × ℕ) (pins made count : ℕ) (passes : List (Pass C)) (h : Halves v w table pins made passes)
    (more : made < count) (few : count ≤ 16) (room : count * pins ≤ v.pins_left) where
  -- pins for one pass more are left
  pub pins_enough : pins ≤ w.pins_left
  pins_enough = let m : suc made * pins ≤ count * pins = mul-le-mul_right pins more in let d : suc made * pins ≡ made * pins + pins = suc-mul made pins in
      let l = h.divides.pins_left in omega arith

  one_less : (n : ℕ) → n + made ≡ 32 → (m : ℕ) × (n ≡ suc m)
  one_less zero e = absurd (omega arith)
  one_less (suc m) e = (m, refl)

  module _ (u new : View) (left_is : u ≡ after_split w pins) (new_is : new ≡ split_off w pins) where
    halved : (m : ℕ) × (h.left ≡ suc m) × (2 * enough m ≤ w.share)
    halved = let f = one_less h.left h.left_is in (f.0, f.1, subst (λ (n : ℕ). enough n ≤ w.share) f.1 h.enough_left)

    pub new_share : new.share ≢ 0
    new_share none = let f = halved in let le : 2 * enough f.0 ≤ w.share = f.2 in let p = positive f.0 in
        let is : new.share ≡ w.share / 2 = ap (λ (x : View). x.share) new_is in omega arith

    pub new_idle : IsIdle new
    new_idle = subst IsIdle (sym new_is) (record { unpinned = refl; free = refl; plain = refl; whole_entries = refl })

    module _ (p : Pass C) (t : TableId × ℕ) (is_pass : pass_of p ≡ pass_meaning new t) (same : t ≡ table) where
      is_new : IsNewPass (bench_meaning v table) pins (pass_of p)
      is_new = subst (IsNewPass (bench_meaning v table) pins) (sym (is_pass ∙ (λ i. pass_meaning (new_is i) (same i)))) (record {
        sizes = h.divides.sizes;
        table = refl;
        log = h.divides.log;
        share = λ none. new_share (ap (λ (x : View). x.share) new_is ∙ none);
        pins_left = refl;
        steps = refl;
      })

      pub goes_on : (all : List (Pass C)) → all ≡ passes ++ p ∷ [] → Halves v u table pins (made + 1) all
      goes_on all e = let d = h.divides in let f = halved in let le : 2 * enough f.0 ≤ w.share = f.2 in let pos = positive f.0 in
          let S : Pass C → ℕ = λ q. (pass_of q).share in
          let add = total_append S passes p in let its : S p ≡ w.share / 2 = ap (λ (x : PassMeaning). x.share) is_pass ∙ ap (λ (x : View). x.share) new_is in
          subst (λ (l : List (Pass C)). Halves v u table pins (made + 1) l) (sym e) (subst (λ (x : View). Halves v x table pins (made + 1) (passes ++ p ∷ []))
          (sym left_is) (record {
            divides = record {
              many = (let n = length-append passes (p ∷ []) in let m = d.many in omega arith);
              each = each_append (λ (q : Pass C). IsNewPass (bench_meaning v table) pins (pass_of q)) passes (p ∷ []) d.each (is_new, tt);
              pins_left = (let k : suc made * pins ≡ made * pins + pins = suc-mul made pins in let l = d.pins_left in let n = pins_enough in
                  let s : made + 1 ≡ suc made = omega arith in let r = ap (λ (x : ℕ). x * pins) s in omega arith);
              shares = (let s = d.shares in omega arith);
              share = λ none. omega arith;
              sizes = d.sizes;
              log = d.log;
              log_words = d.log_words;
              pinned = d.pinned;
              own = d.own;
              role = d.role;
              steps = ap (λ (l : List Step). l ++ was_split ∷ []) d.steps ∙ append_assoc v.steps (replicate made was_split) (was_split ∷ [])
                  ∙ ap (λ (l : List Step). v.steps ++ l) (replicate_more made was_split);
            };
            left = f.0;
            left_is = (let l = h.left_is in let i = f.1 in omega arith);
            enough_left = omega arith;
          }))
