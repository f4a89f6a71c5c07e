use Rattle.std.proofs.Common.{◌≡◌, ◌++◌, ◌∷◌, [], ◌+◌, None, Some, length, position, sym, ap, ◌∙◌, arith}
use Rattle.std.proofs.lemmas.List.{map-append, length-map}
use Rattle.grammar_text.specs.Sameness.{spelling_eq}
use Rattle.forest.specs.declared.symbols.SymbolId.{SymbolId}
use Rattle.edit_log.specs.declared.fresh_symbols.FreshSymbol.{FreshSymbol}
use Rattle.edit_log.specs.Replicas.{symbols_in}
use Rattle.edit_log.specs.Symbols.{place_of}
use Rattle.edit_log.proofs.FirstPlaces.{IsNumberIn, in_known, in_fresh, in_neither}
use Rattle.edit_log.proofs.fresh_symbols.number_in.Goals as goal

known_one : (c : goal.In-Some) → IsNumberIn (c.args.known.now.keys ++ symbols_in c.args.fresh.now.items) (c.args.known.now.keys
    ++ symbols_in c.args.fresh.now.items) c.args.symbol.now c.in-Some.place
known_one c = in_known c.args.known.now.keys (symbols_in c.args.fresh.now.items) c.args.symbol.now c.in-Some.place (sym c.get_index_of.ensures.index
    ∙ c.in-Some.is)

pub returns-in-Some-clause-grown : goal.returns-in-Some-clause-grown
returns-in-Some-clause-grown c = (known_one c).list

pub returns-in-Some-clause-number : goal.returns-in-Some-clause-number
returns-in-Some-clause-number c = ap (λ n. let number : SymbolId = record { 0 = n } in number) (known_one c).place

fresh_one : (c : goal.After-len)
    → IsNumberIn (c.args.known.now.keys ++ symbols_in c.args.fresh.now.items) (c.args.known.now.keys ++ symbols_in c.args.fresh.now.items) c.args.symbol.now
    (c.len.result + c.in-Some-place_in.place)
fresh_one c =
    let s = c.args.symbol.now in
    let fresh = c.args.fresh.now.items in
    let none : position (spelling_eq s) c.args.known.now.keys ≡ None = sym c.get_index_of.ensures.index ∙ c.in_default.is in
    let at : position (spelling_eq s) (symbols_in fresh) ≡ Some c.in-Some-place_in.place = ap (λ xs. position (spelling_eq s) (symbols_in xs))
    (sym c.deref.ensures.value) ∙ sym c.place_in.ensures ∙ c.in-Some-place_in.is in
    let one = in_fresh c.args.known.now.keys (symbols_in fresh) s c.in-Some-place_in.place none at in
    record { list = one.list; place = ap (λ n. n + c.in-Some-place_in.place) c.len.ensures.len ∙ one.place }

pub returns-in-Some-place_in-clause-grown : goal.returns-in-Some-place_in-clause-grown
returns-in-Some-place_in-clause-grown c = (fresh_one c).list

pub returns-in-Some-place_in-clause-number : goal.returns-in-Some-place_in-clause-number
returns-in-Some-place_in-clause-number c = ap (λ n. let number : SymbolId = record { 0 = n } in number) (fresh_one c).place

new_one : (c : goal.In_ok-push)
    → IsNumberIn (c.args.known.now.keys ++ symbols_in c.args.fresh.now.items) (c.args.known.now.keys ++ symbols_in c.push.new.self.items) c.args.symbol.now
    (c.len-2.result + c.len-3.result)
new_one c =
    let s = c.args.symbol.now in
    let known = c.args.known.now.keys in
    let fresh = c.args.fresh.now.items in
    let one = c.in_ok-fresh.field-0 in
    let none : position (spelling_eq s) known ≡ None = sym c.get_index_of.ensures.index ∙ c.in_default.is in
    let absent : position (spelling_eq s) (symbols_in fresh) ≡ None = ap (λ xs. position (spelling_eq s) (symbols_in xs)) (sym c.deref.ensures.value)
    ∙ sym c.place_in.ensures ∙ c.in_default-place_in.is in
    let items : symbols_in c.push.new.self.items ≡ symbols_in fresh ++ s ∷ [] =
    ap symbols_in c.in_ok-push.ensures.items ∙ map-append (λ (one : FreshSymbol). one.symbol) fresh (one ∷ []) ∙ ap (λ x. symbols_in fresh
    ++ x ∷ []) c.in_ok-fresh.ensures.symbol in
    let new = in_neither known (symbols_in fresh) s none absent in
    let count : c.len-2.result + c.len-3.result ≡ length known + length (symbols_in fresh) = omega (
      arith,
      c.len-2.ensures.len,
      c.len-3.ensures,
      c.args.fresh.now.ok.0,
      length-map fresh (λ (one : FreshSymbol). one.symbol),
    ) in
    record {
      list = ap (λ xs. known ++ xs) items ∙ new.list;
      place = count ∙ new.place ∙ ap (λ xs. place_of (known ++ xs) s) (sym items);
    }

pub returns-clause-grown : goal.returns-clause-grown
returns-clause-grown c = (new_one c).list

pub returns-clause-number : goal.returns-clause-number
returns-clause-number c = ap (λ n. let number : SymbolId = record { 0 = n } in number) (new_one c).place
