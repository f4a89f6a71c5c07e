-- Words and marked words.
use Rattle.std.proofs.Common.{◌≡◌, ℕ, ◌+◌, List, [], ◌∷◌, ◌++◌, length, IsTrue, slice_index_or, refl, sym, ap, ◌∙◌, subst, inl, inr, append_assoc, append-nil}
use Rattle.std.proofs.Common.{length-append}
use Rattle.std.specs.List.{concat, AllByRecursion, AllZip}
use Rattle.regex_ast.specs.Bytes.{has}
use Rattle.regex_ast.specs.Expressions.{Expression, class, sequence, choice, star, plus, maybe, class_count, classes_of}
use Rattle.regex_ast.specs.Matching.{Matches, MarksFrom}

-- the class at p has b
abbrev pub Holds : List (List ℕ) → ℕ → ℕ → Type 0
Holds cs p b = IsTrue (has (slice_index_or cs p []) b)

pub AllZip-join : (cs : List (List ℕ)) (m n u v : List ℕ) → AllZip (Holds cs) m u → AllZip (Holds cs) n v → AllZip (Holds cs) (m ++ n) (u ++ v)
AllZip-join cs [] n [] v h k = k
AllZip-join cs [] n (x ∷ u) v h k = absurd h
AllZip-join cs (p ∷ m) n [] v h k = absurd h
AllZip-join cs (p ∷ m) n (x ∷ u) v h k = (h.0, AllZip-join cs m n u v h.1 k)

pub AllZip-part : (cs : List (List ℕ)) (m n w : List ℕ) → AllZip (Holds cs) (m ++ n) w → (u : List ℕ) × (v : List ℕ) × AllZip (Holds cs) m u × AllZip
    (Holds cs) n v × (w ≡ u ++ v)
AllZip-part cs [] n w h = ([], w, tt, h, refl)
AllZip-part cs (p ∷ m) n [] h = absurd h
AllZip-part cs (p ∷ m) n (x ∷ w) h =
    let r = AllZip-part cs m n w h.1 in (x ∷ r.0, r.1, (h.0, r.2), r.3, ap (λ t. x ∷ t) r.4)

-- the classes with the numbers from n on are those of the expression
abbrev pub AreAt : List (List ℕ) → ℕ → Expression → Type 0
AreAt cs n (class set) = slice_index_or cs n [] ≡ set
AreAt cs n (sequence a b) = AreAt cs n a × AreAt cs (n + class_count a) b
AreAt cs n (choice a b) = AreAt cs n a × AreAt cs (n + class_count a) b
AreAt cs n (star a) = AreAt cs n a
AreAt cs n (plus a) = AreAt cs n a
AreAt cs n (maybe a) = AreAt cs n a

ap2 : {A B C : Type 0} (f : A → B → C) {a a' : A} {b b' : B} → a ≡ a' → b ≡ b' → f a b ≡ f a' b'
ap2 f {a} {a'} {b} {b'} p q = ap (λ x. f x b) p ∙ ap (λ y. f a' y) q

pub length-classes_of : (e : Expression) → length (classes_of e) ≡ class_count e
length-classes_of (class set) = refl
length-classes_of (sequence a b) = length-append (classes_of a) (classes_of b) ∙ ap2 (λ m n. m + n) (length-classes_of a) (length-classes_of b)
length-classes_of (choice a b) = length-append (classes_of a) (classes_of b) ∙ ap2 (λ m n. m + n) (length-classes_of a) (length-classes_of b)
length-classes_of (star a) = length-classes_of a
length-classes_of (plus a) = length-classes_of a
length-classes_of (maybe a) = length-classes_of a

pub at_length : (front : List (List ℕ)) (set : List ℕ) (back : List (List ℕ)) → slice_index_or (front ++ set ∷ back) (length front) [] ≡ set
at_length [] set back = refl
at_length (f ∷ front) set back = at_length front set back

two_at : (a b : Expression) → ((front back : List (List ℕ)) → AreAt (front ++ (classes_of a ++ back)) (length front) a)
    → ((front back : List (List ℕ)) → AreAt (front ++ (classes_of b ++ back)) (length front) b)
    → (front back : List (List ℕ)) → AreAt (front ++ ((classes_of a ++ classes_of b) ++ back)) (length front) a × AreAt
    (front ++ ((classes_of a ++ classes_of b) ++ back)) (length front + class_count a) b
two_at a b one two front back = (
  subst (λ cs. AreAt cs (length front) a) (ap (λ t. front ++ t) (sym (append_assoc (classes_of a) (classes_of b) back))) (one front (classes_of b ++ back)),
  subst (λ n. AreAt (front ++ ((classes_of a ++ classes_of b) ++ back)) n b) (length-append front (classes_of a)
      ∙ ap (λ n. length front + n) (length-classes_of a))
      (subst (λ cs. AreAt cs (length (front ++ classes_of a)) b) (append_assoc front (classes_of a) (classes_of b ++ back)
      ∙ ap (λ t. front ++ t) (sym (append_assoc (classes_of a) (classes_of b) back)))
      (two (front ++ classes_of a) back)),
)

classes_at : (e : Expression) (front back : List (List ℕ)) → AreAt (front ++ (classes_of e ++ back)) (length front) e
classes_at (class set) front back = at_length front set back
classes_at (sequence a b) front back = two_at a b (classes_at a) (classes_at b) front back
classes_at (choice a b) front back = two_at a b (classes_at a) (classes_at b) front back
classes_at (star a) front back = classes_at a front back
classes_at (plus a) front back = classes_at a front back
classes_at (maybe a) front back = classes_at a front back

pub AreAt-own : (e : Expression) → AreAt (classes_of e) 0 e
AreAt-own e = subst (λ cs. AreAt cs 0 e) (append-nil (classes_of e)) (classes_at e [] [])

one_byte_word : (cs : List (List ℕ)) (n : ℕ) (set : List ℕ) → slice_index_or cs n [] ≡ set → (w : List ℕ) → AllZip (Holds cs) (n ∷ []) w
    → (b : ℕ) × IsTrue (has set b) × (w ≡ b ∷ [])
one_byte_word cs n set at [] k = absurd k
one_byte_word cs n set at (b ∷ []) k = (b, subst (λ s. IsTrue (has s b)) at k.0, refl)
one_byte_word cs n set at (b ∷ c ∷ w) k = absurd k.1

no_byte_word : (cs : List (List ℕ)) (w : List ℕ) → AllZip (Holds cs) [] w → w ≡ []
no_byte_word cs [] k = refl
no_byte_word cs (b ∷ w) k = absurd k

-- every piece has marks
pieces_marked : (cs : List (List ℕ)) (P : List ℕ → Type 0) (Q : List ℕ → Type 0) → ((w : List ℕ) → P w → (m : List ℕ) × Q m × AllZip (Holds cs) m w)
    → (ws : List (List ℕ)) → AllByRecursion P ws → (ms : List (List ℕ)) × AllByRecursion Q ms × AllZip (Holds cs) (concat ms) (concat ws)
pieces_marked cs P Q f [] h = ([], tt, tt)
pieces_marked cs P Q f (w ∷ ws) h =
    let one = f w h.0 in let rest = pieces_marked cs P Q f ws h.1 in
    (one.0 ∷ rest.0, (one.1, rest.1), AllZip-join cs one.0 (concat rest.0) w (concat ws) one.2 rest.2)

pieces_matched : (cs : List (List ℕ)) (P : List ℕ → Type 0) (Q : List ℕ → Type 0) → ((m w : List ℕ) → Q m → AllZip (Holds cs) m w → P w)
    → (ms : List (List ℕ)) (w : List ℕ) → AllByRecursion Q ms → AllZip (Holds cs) (concat ms) w → (ws : List (List ℕ)) × AllByRecursion P ws × (w ≡ concat ws)
pieces_matched cs P Q f [] [] h k = ([], tt, refl)
pieces_matched cs P Q f [] (x ∷ w) h k = absurd k
pieces_matched cs P Q f (m ∷ ms) w h k =
    let parts = AllZip-part cs m (concat ms) w k in
    let rest = pieces_matched cs P Q f ms parts.1 h.1 parts.3 in
    (parts.0 ∷ rest.0, (f m parts.0 h.0 parts.2, rest.1), parts.4 ∙ ap (λ t. parts.0 ++ t) rest.2)

-- a word that is matched has marks
pub marked : (cs : List (List ℕ)) (n : ℕ) (e : Expression) → AreAt cs n e → (w : List ℕ) → Matches e w → (m : List ℕ) × MarksFrom n e m × AllZip (Holds cs) m w
marked cs n (class set) at w h =
    (n ∷ [], refl, subst (λ t. AllZip (Holds cs) (n ∷ []) t) (sym h.2) (subst (λ s. IsTrue (has s h.0)) (sym at) h.1, tt))
marked cs n (sequence a b) at w h =
    let x = marked cs n a at.0 h.0 h.2 in let y = marked cs (n + class_count a) b at.1 h.1 h.3 in
    (x.0 ++ y.0, (x.0, y.0, x.1, y.1, refl), subst (λ t. AllZip (Holds cs) (x.0 ++ y.0) t) (sym h.4) (AllZip-join cs x.0 y.0 h.0 h.1 x.2 y.2))
marked cs n (choice a b) at w (inl h) = let x = marked cs n a at.0 w h in (x.0, inl x.1, x.2)
marked cs n (choice a b) at w (inr h) = let y = marked cs (n + class_count a) b at.1 w h in (y.0, inr y.1, y.2)
marked cs n (star a) at w h =
    let x = pieces_marked cs (Matches a) (MarksFrom n a) (λ u k. marked cs n a at u k) h.0 h.1 in
    (concat x.0, (x.0, x.1, refl), subst (λ t. AllZip (Holds cs) (concat x.0) t) (sym h.2) x.2)
marked cs n (plus a) at w h =
    let one = marked cs n a at h.0 h.2.0 in
    let rest = pieces_marked cs (Matches a) (MarksFrom n a) (λ u k. marked cs n a at u k) h.1 h.2.1 in (
      one.0 ++ concat rest.0,
      (one.0, rest.0, (one.1, rest.1), refl),
      subst (λ t. AllZip (Holds cs) (one.0 ++ concat rest.0) t) (sym h.3) (AllZip-join cs one.0 (concat rest.0) h.0 (concat h.1) one.2 rest.2),
    )
marked cs n (maybe a) at w (inl h) = ([], inl refl, subst (λ t. AllZip (Holds cs) [] t) (sym h) tt)
marked cs n (maybe a) at w (inr h) = let x = marked cs n a at w h in (x.0, inr x.1, x.2)

-- a word whose bytes the classes of a marked word hold is matched
pub matched : (cs : List (List ℕ)) (n : ℕ) (e : Expression) → AreAt cs n e → (m w : List ℕ) → MarksFrom n e m → AllZip (Holds cs) m w → Matches e w
matched cs n (class set) at m w h k = one_byte_word cs n set at w (subst (λ t. AllZip (Holds cs) t w) h k)
matched cs n (sequence a b) at m w h k =
    let parts = AllZip-part cs h.0 h.1 w (subst (λ t. AllZip (Holds cs) t w) h.4 k) in
    (parts.0, parts.1, matched cs n a at.0 h.0 parts.0 h.2 parts.2, matched cs (n + class_count a) b at.1 h.1 parts.1 h.3 parts.3, parts.4)
matched cs n (choice a b) at m w (inl h) k = inl (matched cs n a at.0 m w h k)
matched cs n (choice a b) at m w (inr h) k = inr (matched cs (n + class_count a) b at.1 m w h k)
matched cs n (star a) at m w h k =
    pieces_matched cs (Matches a) (MarksFrom n a) (λ u v x y. matched cs n a at u v x y) h.0 w h.1 (subst (λ t. AllZip (Holds cs) t w) h.2 k)
matched cs n (plus a) at m w h k =
    let parts = AllZip-part cs h.0 (concat h.1) w (subst (λ t. AllZip (Holds cs) t w) h.3 k) in
    let rest = pieces_matched cs (Matches a) (MarksFrom n a) (λ u v x y. matched cs n a at u v x y) h.1 parts.1 h.2.1 parts.3 in
    (parts.0, rest.0, (matched cs n a at h.0 parts.0 h.2.0 parts.2, rest.1), parts.4 ∙ ap (λ t. parts.0 ++ t) rest.2)
matched cs n (maybe a) at m w (inl h) k = inl (no_byte_word cs w (subst (λ t. AllZip (Holds cs) t w) h k))
matched cs n (maybe a) at m w (inr h) k = inr (matched cs n a at m w h k)
