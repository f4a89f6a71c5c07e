use Rattle.std.proofs.Common.{◌≡◌, length, inl, inr, sym, ap, ◌∙◌, length-set, arith}
use Rattle.pin_rule.specs.GivingUp.{last_of, before_last}
use Rattle.pin_rule.proofs.Oldest.{live_whole}
use Rattle.version_store.specs.declared.live_version.OlderVersion.{OlderVersion}
use Rattle.version_store.specs.LivePages.{older_noted, oldest_first}
use Rattle.version_store.proofs.Noting.{first_removed, first_is_last, page_there, page_still, cons_parts, release_noted}
use Rattle.version_store.proofs.lives.Lives.drop_oldest.Goals as goal

pub bounds-self-oldest : goal.bounds-self-oldest
bounds-self-oldest c = let s = c.args.self.now in let r = c.remove-oldest in
    let e = first_removed s.older.items r.result r.new.self.items c.requires r.ensures.value r.ensures.items in
    let lt = s.pages_in r.result.live.page (page_there s.newest s.older.items r.result r.new.self.items e) in let most = s.sizes.versions_in in omega arith

pub invariant_of-self : goal.invariant_of-self
invariant_of-self c = let s = c.args.self.now in let r = c.remove-oldest in
    let e = first_removed s.older.items r.result r.new.self.items c.requires r.ensures.value r.ensures.items in record {
      measured = s.measured;
      few = (let n = ap length e in let few = s.few in omega arith);
      room = (let k = r.ensures.capacity in let room = s.room in omega arith);
      many = length-set s.releases r.result.live.page c.args.released ∙ s.many;
      pages_in = λ page i. s.pages_in page (page_still s.newest s.older.items r.result r.new.self.items e page i);
    }

pub returns-clause-noted : goal.returns-clause-noted
returns-clause-noted c = λ newest a os known h. let s = c.args.self.now in let r = c.remove-oldest in
    let e = first_removed s.older.items r.result r.new.self.items c.requires r.ensures.value r.ensures.items in
    let p = cons_parts (older_noted (last_of a os)) r.result (oldest_first (before_last a os)) r.new.self.items (sym (first_is_last a os) ∙ h.older_is ∙ e) in
    let lt = s.pages_in r.result.live.page (page_there s.newest s.older.items r.result r.new.self.items e) in let most = s.sizes.versions_in in
    let page : r.result.live.page ≡ (last_of a os).live.page = ap (λ (o : OlderVersion). o.live.page) (sym p.0) in record {
      newest_is = h.newest_is;
      older_is = p.1;
      releases_are = release_noted s.releases known r.result.live.page (last_of a os).live.page c.args.released page (let many = s.many in omega arith)
          h.releases_are;
      carried_are = λ k row i lt. h.carried_are k row (elim i [ inl x ↦ inl x | inr t ↦ inr (live_whole a k os t) ]) lt;
    }
