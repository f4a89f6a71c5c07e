-- Reading symbols one after the other, as a loop does.
use Rattle.std.proofs.Common.{◌≡◌, ℕ, zero, suc, ◌+◌, ◌-◌, ◌<◌, true, false, List, [], ◌∷◌, ◌++◌, length, Result, Ok, Err, refl, sym, ap, ◌∙◌, append_assoc}
use Rattle.std.proofs.Common.{length-append, arith}
use Rattle.std.proofs.lemmas.List.{append-nil}
use Rattle.grammar_text.specs.declared.bad_edit.BadEdit.{BadEdit}
use Rattle.grammar_text.specs.declared.bad_edit.BadEdit.TheVariants.{Shape, BadName, BadLiteral, TooManySymbols, TooLong, NoMemory}
use Rattle.grammar_text.specs.declared.symbol.Symbol.{Symbol}
use Rattle.grammar_text.specs.Pieces.{Place, offset_of, trimmed, is_empty}
use Rattle.grammar_text.specs.Limits.{the_limits}
use Rattle.grammar_text.specs.Reading.{◌>>=◌, IsRefusal, piece_at, symbol_from, symbols_at}
use Rattle.grammar_text.proofs.Gaps.{trimmed-trimmed}

-- these symbols before what was read
abbrev pub with_front : List Symbol → Result (List Symbol) BadEdit → Result (List Symbol) BadEdit
with_front front read = read >>= λ others. Ok (front ++ others)

regroup : (front : List Symbol) (first : Symbol) (read : Result (List Symbol) BadEdit) → with_front front (read >>= λ others. Ok (first ∷ others)) ≡ with_front
    (front ++ first ∷ []) read
regroup front first (Ok others) = ap (λ (symbols : List Symbol). Ok symbols) (sym (append_assoc front (first ∷ []) others))
regroup front first (Err e) = refl

-- the blanks before the next symbol make no difference
symbols_at-piece_at : (room : ℕ) (place : Place) → symbols_at the_limits room (piece_at place) ≡ symbols_at the_limits room place
unfolding symbols_at
symbols_at-piece_at zero place = rw (trimmed-trimmed place.left) refl
symbols_at-piece_at (suc room) place = rw (trimmed-trimmed place.left) refl

front-none : (read : Result (List Symbol) BadEdit) → with_front [] read ≡ read
front-none (Ok symbols) = refl
front-none (Err e) = refl

-- nothing is read yet
pub symbols-begin : (limit : ℕ) (place : Place) → with_front [] (symbols_at the_limits limit (piece_at place)) ≡ symbols_at the_limits limit place
symbols-begin limit place = front-none (symbols_at the_limits limit (piece_at place)) ∙ symbols_at-piece_at limit place

next-symbol : (room : ℕ) (place behind : Place) (symbol : Symbol) → is_empty place.left ≡ false → trimmed place.left ≡ place.left
    → symbol_from the_limits place ≡ Ok (symbol, behind)
    → symbols_at the_limits (suc room) place ≡ (symbols_at the_limits room (piece_at behind) >>= λ others. Ok (symbol ∷ others))
unfolding symbols_at
next-symbol room place behind symbol more is read =
    rw (is, more, read, symbols_at-piece_at room behind) refl

-- one symbol more
pub symbols-more : (limit : ℕ) (front new : List Symbol) (place behind : Place) (symbol : Symbol) (total : Result (List Symbol) BadEdit) → length front < limit
    → is_empty place.left ≡ false
    → trimmed place.left ≡ place.left → symbol_from the_limits place ≡ Ok (symbol, behind) → new ≡ front ++ symbol ∷ []
    → with_front front (symbols_at the_limits (limit - length front) place) ≡ total
    → with_front new (symbols_at the_limits (limit - length new) (piece_at behind)) ≡ total
symbols-more limit front new place behind symbol total lt more is read pushed so_far =
    let longer : length new ≡ length front + 1 = ap length pushed ∙ length-append front (symbol ∷ []) in
    let room : limit - length front ≡ suc (limit - length new) = omega arith in
    let one : with_front front (symbols_at the_limits (limit - length front) place) ≡ with_front (front ++ symbol ∷ [])
    (symbols_at the_limits (limit - length new) (piece_at behind)) =
    rw (room, next-symbol (limit - length new) place behind symbol more is read)
    (regroup front symbol (symbols_at the_limits (limit - length new) (piece_at behind))) in
    ap (λ (symbols : List Symbol). with_front symbols (symbols_at the_limits (limit - length new) (piece_at behind))) pushed ∙ sym one ∙ so_far

-- a symbol is refused
fails-with : (room : ℕ) (front : List Symbol) (place : Place) (e : BadEdit) → is_empty place.left ≡ false → trimmed place.left ≡ place.left
    → symbol_from the_limits place ≡ Err e
    → with_front front (symbols_at the_limits (suc room) place) ≡ Err e
unfolding symbols_at
fails-with room front place e more is read = rw (is, more, read) refl

symbols-err : (e : BadEdit) (limit : ℕ) (front : List Symbol) (place : Place) (total : Result (List Symbol) BadEdit) → length front < limit
    → is_empty place.left ≡ false
    → trimmed place.left ≡ place.left → symbol_from the_limits place ≡ Err e → with_front front (symbols_at the_limits (limit - length front) place) ≡ total
    → total ≡ Err e
symbols-err e limit front place total lt more is read so_far =
    let room : limit - length front ≡ suc (limit - (length front + 1)) = omega arith in
    let one : with_front front (symbols_at the_limits (limit - length front) place) ≡ Err e =
    rw room (fails-with (limit - (length front + 1)) front place e more is read) in
    sym so_far ∙ one

pub symbols-fail : (e : BadEdit) (limit : ℕ) (front : List Symbol) (place : Place) (total : Result (List Symbol) BadEdit) → length front < limit
    → is_empty place.left ≡ false
    → trimmed place.left ≡ place.left → IsRefusal e (symbol_from the_limits place) → with_front front (symbols_at the_limits (limit - length front) place)
    ≡ total → IsRefusal e total
symbols-fail NoMemory limit front place total lt more is read so_far = tt
symbols-fail (Shape o) limit front place total lt more is read so_far = symbols-err (Shape o) limit front place total lt more is read so_far
symbols-fail (BadName o) limit front place total lt more is read so_far = symbols-err (BadName o) limit front place total lt more is read so_far
symbols-fail (BadLiteral o) limit front place total lt more is read so_far = symbols-err (BadLiteral o) limit front place total lt more is read so_far
symbols-fail (TooManySymbols o) limit front place total lt more is read so_far = symbols-err (TooManySymbols o) limit front place total lt more is read so_far
symbols-fail (TooLong o) limit front place total lt more is read so_far = symbols-err (TooLong o) limit front place total lt more is read so_far

-- no room is left for the next symbol
pub symbols-full : (limit : ℕ) (front : List Symbol) (place : Place) (total : Result (List Symbol) BadEdit) → length front ≡ limit → is_empty place.left ≡ false
    → trimmed place.left ≡ place.left
    → with_front front (symbols_at the_limits (limit - length front) place) ≡ total → total ≡ Err (TooManySymbols (offset_of place))
unfolding symbols_at
symbols-full limit front place total full more is so_far =
    let room : limit - length front ≡ 0 = omega arith in
    let one : with_front front (symbols_at the_limits (limit - length front) place) ≡ Err (TooManySymbols (offset_of place)) = rw (room, is, more) refl in
    sym so_far ∙ one

-- no symbol comes
ends : (room : ℕ) (place : Place) → is_empty place.left ≡ true → trimmed place.left ≡ place.left → symbols_at the_limits room place ≡ Ok []
unfolding symbols_at
ends zero place done is = rw (is, done) refl
ends (suc room) place done is = rw (is, done) refl

pub symbols-done : (limit : ℕ) (front : List Symbol) (place : Place) (total : Result (List Symbol) BadEdit) → is_empty place.left ≡ true
    → trimmed place.left ≡ place.left
    → with_front front (symbols_at the_limits (limit - length front) place) ≡ total → total ≡ Ok front
symbols-done limit front place total done is so_far =
    let one : with_front front (symbols_at the_limits (limit - length front) place) ≡ Ok front = rw (ends (limit - length front) place done is)
    (ap (λ (symbols : List Symbol). Ok symbols) (append-nil front)) in
    sym so_far ∙ one
