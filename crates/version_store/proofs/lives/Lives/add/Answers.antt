use Rattle.std.proofs.Common.{◌≡◌, ◌<◌, ◌++◌, ◌∷◌, [], ℕ, length, length-append, inl, inr, refl, sym, ap, ◌∙◌, subst, arith}
use Rattle.pin_rule.specs.declared.sizes.Sizes.{Sizes}
use Rattle.pin_rule.specs.declared.view.Live.{Live}
use Rattle.pin_rule.specs.Lists.{In, is_in}
use Rattle.version_store.specs.Marks.{is_marked}
use Rattle.version_store.specs.LivePages.{pages_noted}
use Rattle.version_store.specs.declared.live_version.OlderVersion.{OlderVersion}
use Rattle.version_store.proofs.Noting.{page_added, page_of_live}
use Rattle.version_store.proofs.lives.Lives.add.Goals as goal

pub note-requires-clause-rows : goal.note-requires-clause-rows
note-requires-clause-rows c = λ place row e. subst (λ (z : Sizes). row < z.rows) (sym c.args.self.now.measured) (c.requires.rows place row e)

pub invariant_of-self : goal.invariant_of-self
invariant_of-self c = let s = c.args.self.now in let p = c.push_reserved.ensures in let x : OlderVersion = record { live = s.newest; taken = c.args.taken } in
    record {
      measured = c.note.ensures.sizes ∙ s.measured;
      few = (let n = ap length p.items in let m = length-append s.older.items (x ∷ []) in let room = c.requires.room in omega arith);
      room = (let k = p.capacity in let room = s.room in omega arith);
      many = s.many;
      pages_in = λ page i. elim i [
        | inl e ↦ subst (λ (q : ℕ). q < s.sizes.versions) (sym e) c.requires.page
        | inr t ↦ s.pages_in page (page_added s.newest s.older.items c.push_reserved.new.self.items x page p.items refl t)
      ];
    }

pub returns-clause-noted : goal.returns-clause-noted
returns-clause-noted c = λ newest older known h out. let s = c.args.self.now in let p = c.push_reserved.ensures in let page : ℕ = c.args.page in
    let inside : page < 16 = (let lt = c.requires.page in let most = s.sizes.versions_in in omega arith) in
    let q = c.note.ensures in let new = c.note.new.self in record {
      newest_is = λ i. record { version = c.args.version; page = page; base = sym (h.releases_are page inside) i };
      older_is = (λ i. h.older_is i ++ record { live = h.newest_is i; taken = c.args.taken } ∷ []) ∙ sym p.items;
      releases_are = h.releases_are;
      carried_are = λ k row i lt. let was : row < s.carried.sizes.rows = subst (λ (z : Sizes). row < z.rows) q.sizes lt in elim i [
        | inl e ↦ subst (λ (l : Live). is_marked new.sizes new.marks.items l.page row ≡ is_in row l.carried) (sym e) (q.here row was)
        | inr t ↦ q.else_ k.page row was (λ e. out (subst (λ (n : ℕ). In n (pages_noted s.newest s.older.items)) e
            (page_of_live newest older s.newest s.older.items k h.newest_is h.older_is t))) ∙ h.carried_are k row t was
      ];
    }
