-- Several reads and several writes one after another, for those who call them in a loop.
use Rattle.std.proofs.Common.{◌≡◌, ℕ, List, [], ◌++◌, Option, Some, None, IfSome, refl, append_assoc, append-nil, sym, ap, ◌∙◌}
use Rattle.std.specs.Io.KnownBytes.{prepend_known, append_known}
use Rattle.bench_io.specs.Known.{Gives, Takes, IsKnownAs}

prepend_known-append : (xs ys : List ℕ) (known : Option (List ℕ)) → prepend_known xs (prepend_known ys known) ≡ prepend_known (xs ++ ys) known
prepend_known-append xs ys None = refl
prepend_known-append xs ys (Some zs) = ap Some (sym (append_assoc xs ys zs))

append_known-append : (known : Option (List ℕ)) (xs ys : List ℕ) → append_known (append_known known xs) ys ≡ append_known known (xs ++ ys)
append_known-append None xs ys = refl
append_known-append (Some zs) xs ys = ap Some (append_assoc zs xs ys)

-- two reads give the bytes of both
pub Gives-append : (old between new : Option (List ℕ)) (xs ys : List ℕ) → Gives old between xs → Gives between new ys → Gives old new (xs ++ ys)
Gives-append old between new xs ys first second =
    first ∙ ap (prepend_known xs) second ∙ prepend_known-append xs ys new

-- two writes take the bytes of both
pub Takes-append : (old between new : Option (List ℕ)) (xs ys : List ℕ) → Takes old between xs → Takes between new ys → Takes old new (xs ++ ys)
Takes-append old between new xs ys first second =
    second ∙ ap (λ known. append_known known ys) first ∙ append_known-append old xs ys

-- a read of nothing
pub Gives-none : (known : Option (List ℕ)) → Gives known known []
Gives-none None = refl
Gives-none (Some xs) = refl

-- a write of nothing
pub Takes-none : (known : Option (List ℕ)) → Takes known known []
Takes-none None = refl
Takes-none (Some xs) = ap Some (sym (append-nil xs))

-- what was read to the end is all that was left
pub IsKnownAs-at_end : (old new : Option (List ℕ)) (bytes : List ℕ) → Gives old new bytes → IfSome new (λ rest. rest ≡ []) → IsKnownAs old bytes
IsKnownAs-at_end None new bytes gives ended = tt
IsKnownAs-at_end (Some xs) None bytes gives ended = absurd cc
IsKnownAs-at_end (Some xs) (Some rest) bytes gives ended =
    let all : xs ≡ bytes ++ rest = cc in
    all ∙ rw ended (append-nil bytes)
