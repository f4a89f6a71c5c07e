-- The symbols that an edit brings.
use Rattle.std.proofs.Common.{◌≡◌, ℕ, ◌<◌, List, [], ◌∷◌, ◌++◌, length, map, get_or, slice_get, position, Some, None, option_map, refl, sym, ap, subst, ◌∙◌}
use Rattle.std.proofs.Common.{arith, append_assoc, length-append}
use Rattle.std.proofs.lemmas.List.{map-append}
use Rattle.std.proofs.lemmas.Option.{slice_get-map, slice_get_read}
use Rattle.grammar_text.specs.declared.symbol.Symbol.{Symbol}
use Rattle.grammar_text.specs.Sameness.{spelling_eq}
use Rattle.forest.specs.Distinct.{IsDistinct}
use Rattle.edit_log.specs.declared.fresh_symbols.FreshSymbol.{FreshSymbol}
use Rattle.edit_log.specs.Replicas.{symbols_in}
use Rattle.edit_log.proofs.PlainLists.{distinct_middle}
use Rattle.edit_log.proofs.Places.{not_there}

pub symbol_in : (fresh : List FreshSymbol) (i : ℕ) (one : FreshSymbol) → i < length fresh → one ≡ get_or fresh i one
    → slice_get (symbols_in fresh) i ≡ Some one.symbol
symbol_in fresh i one within is = slice_get-map (λ (one : FreshSymbol). one.symbol) fresh i ∙ ap (option_map (λ (one : FreshSymbol). one.symbol))
    (slice_get_read fresh (length fresh) i one refl within is)

-- one is next behind those that are done
pub record IsNext (fresh done rest : List FreshSymbol) (one : FreshSymbol) : Type 0 where
  pub front : fresh ≡ done ++ one ∷ rest
  pub less : length done < length fresh

pub next_is : (fresh done items rest : List FreshSymbol) (one : FreshSymbol) → fresh ≡ done ++ items → items ≡ one ∷ rest → IsNext fresh done rest one
next_is fresh done items rest one front is =
    let all : fresh ≡ done ++ one ∷ rest = front ∙ ap (λ xs. done ++ xs) is in
    record { front = all; less = omega (arith, ap length all, length-append done (one ∷ rest)) }

-- its symbol is not there yet
pub next_new : (known keys : List Symbol) (fresh done rest : List FreshSymbol) (one : FreshSymbol) → IsNext fresh done rest one
    → IsDistinct (known ++ symbols_in fresh) → keys ≡ known ++ symbols_in done
    → position (spelling_eq one.symbol) keys ≡ None
next_new known keys fresh done rest one next apart is =
    let symbols : symbols_in fresh ≡ symbols_in done ++ one.symbol ∷ symbols_in rest = ap symbols_in next.front ∙ map-append
    (λ (one : FreshSymbol). one.symbol) done (one ∷ rest) in
    let all : known ++ symbols_in fresh ≡ keys ++ one.symbol ∷ symbols_in rest =
    ap (λ ss. known ++ ss) symbols ∙ sym (append_assoc known (symbols_in done) (one.symbol ∷ symbols_in rest)) ∙ ap (λ ss. ss ++ one.symbol ∷ symbols_in rest)
    (sym is) in
    not_there keys one.symbol (distinct_middle keys (symbols_in rest) one.symbol (subst (λ (ss : List Symbol). IsDistinct ss) all apart))

pub next_done : (fresh done rest : List FreshSymbol) (one : FreshSymbol) → IsNext fresh done rest one → fresh ≡ (done ++ one ∷ []) ++ rest
next_done fresh done rest one next = next.front ∙ sym (append_assoc done (one ∷ []) rest)

-- what is kept of each symbol, with that of one more
pub kept_more : {X : Type 0} (f : FreshSymbol → X) (old items new : List X) (done : List FreshSymbol) (one : FreshSymbol) → new ≡ items ++ f one ∷ []
    → items ≡ old ++ map f done → new ≡ old ++ map f (done ++ one ∷ [])
kept_more f old items new done one more is =
    more ∙ ap (λ xs. xs ++ f one ∷ []) is ∙ append_assoc old (map f done) (f one ∷ []) ∙ ap (λ xs. old ++ xs) (sym (map-append f done (one ∷ [])))
