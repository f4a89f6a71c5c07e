use Rattle.std.proofs.Common.{◌≡◌, ◌<◌, ◌-◌, ◌+◌, ◌++◌, ℕ, suc, List, length, take, slice_index, inl, inr, refl, sym, ap, ◌∙◌, subst, append-nil, arith}
use Rattle.std.proofs.lemmas.List.{take_all}
use mathlib.Core.Logic.{dite}
use native.Mathlib.Decide.{ℕ_discrete}
use Rattle.pin_rule.specs.declared.sizes.Sizes.{Sizes}
use Rattle.pin_rule.specs.Lists.{is_in}
use Rattle.pin_rule.specs.Making.{rows_of}
use Rattle.slot_store.proofs.Passing.{row_met}
use Rattle.version_store.specs.Marks.{is_marked, AreMarked}
use Rattle.version_store.proofs.NotedPlaces.{all_zero, emptied_on, emptied_set, left_set}
use Rattle.version_store.proofs.MarkedRows.{names_none, names_it, names_other}
use Rattle.version_store.proofs.carried_rows.CarriedRows.note_places.Goals as goal

pub loop-place-init : goal.loop-place-init
loop-place-init c = record {
  sizes = refl;
  noted = λ before h. subst (AreMarked c.args.self.now.sizes c.args.self.now.marks.items c.args.page) (sym (append-nil before)) h;
  others = λ _ _ _ _. refl;
  emptied = λ k lt. absurd (omega arith);
  left = λ _ _. refl;
}

-- the word that is met is the one that was there at first
pub overflow_cast-word : goal.overflow_cast-word
overflow_cast-word c = let n : ℕ = c.loop-place.place in let word : ℕ = slice_index c.loop-place.part n in
    let is = sym (c.loop-place.invariant.left n (omega arith)) ∙ row_met word c.if-word-eq0.false in
    let lt = c.requires.rows n (word - 1) is in let few = c.args.self.now.sizes.rows_in in record { fits = omega arith }

pub set-requires-clause-row : goal.set-requires-clause-row
set-requires-clause-row c = let n : ℕ = c.loop-place.place in let word : ℕ = slice_index c.loop-place.part n in
    subst (λ (z : Sizes). word - 1 < z.rows) (sym c.loop-place.invariant.sizes)
    (c.requires.rows n (word - 1) (sym (c.loop-place.invariant.left n (omega arith)) ∙ row_met word c.if-word-eq0.false))

pub loop-place-preserved-then-word-eq0 : goal.loop-place-preserved-then-word-eq0
loop-place-preserved-then-word-eq0 c = let i = c.loop-place.invariant in let n : ℕ = c.loop-place.place in
    let inside : n < length c.loop-place.part = (let lt = c.loop-place-test.true in let many = c.loop-place.auto.part in omega arith) in record {
      sizes = i.sizes;
      noted = λ before h row lt. i.noted before h row lt
          ∙ sym (names_none before c.args.part.now n c.loop-place-test.true row (sym (i.left n (omega arith)) ∙ c.if-word-eq0.true));
      others = i.others;
      emptied = emptied_on c.loop-place.part n inside i.emptied c.if-word-eq0.true;
      left = λ k ge. i.left k (omega arith);
    }

pub loop-place-preserved : goal.loop-place-preserved
loop-place-preserved c = let i = c.loop-place.invariant in let part = c.args.part.now in let n : ℕ = c.loop-place.place in
    let inside : n < length c.loop-place.part = (let lt = c.loop-place-test.true in let many = c.loop-place.auto.part in omega arith) in
    let word : ℕ = slice_index c.loop-place.part n in let row : ℕ = word - 1 in
    let is : slice_index part n ≡ suc row = sym (i.left n (omega arith)) ∙ row_met word c.if-word-eq0.false in
    let e = c.set.ensures in record {
      sizes = e.sizes ∙ i.sizes;
      noted = λ before h r lt. let was = subst (λ (z : Sizes). r < z.rows) e.sizes lt in dite (ℕ_discrete r row)
          (λ same. ap (λ (k : ℕ). is_marked c.set.new.self.sizes c.set.new.self.marks.items c.args.page k) same ∙ e.here
          ∙ sym (names_it before part n c.loop-place-test.true row is) ∙ ap (λ (k : ℕ). is_in k (rows_of (before ++ take (n + 1) part))) (sym same))
          (λ ne. e.else_ c.args.page r was (inr ne) ∙ i.noted before h r was
          ∙ sym (names_other before part n c.loop-place-test.true row r is ne));
      others = λ p r lt ne. e.else_ p r (subst (λ (z : Sizes). r < z.rows) (sym i.sizes) lt) (inl ne) ∙ i.others p r lt ne;
      emptied = emptied_set c.loop-place.part n inside i.emptied;
      left = λ k ge. left_set c.loop-place.part n inside i.emptied k ge ∙ i.left k (omega arith);
    }

pub returns-clause-noted : goal.returns-clause-noted
returns-clause-noted c = λ before h. subst (λ (l : List ℕ). AreMarked c.loop-place.self.sizes c.loop-place.self.marks.items c.args.page (before ++ l))
    (take_all c.loop-place.place c.args.part.now c.loop-place-test.false) (c.loop-place.invariant.noted before h)

pub returns-clause-emptied : goal.returns-clause-emptied
returns-clause-emptied c = all_zero c.loop-place.part (length c.args.part.now) c.loop-place.auto.part
    (λ k lt. c.loop-place.invariant.emptied k (let out = c.loop-place-test.false in omega arith))
