-- What the reader does is what the text spells.
use Rattle.std.proofs.Common.{◌≡◌, ℕ, ◌+◌, ◌-◌, ◌<◌, ◌≤◌, suc, Bool, true, false, nat_le, if◌then◌else◌, cond, Option, Some, None, Result, Ok, Err, MatchResult}
use Rattle.std.proofs.Common.{IfOk, IfErr, option_and_then, List, [], ◌∷◌, ◌++◌, refl, sym, ap, ◌∙◌, subst, append_assoc, append-nil, arith, length}
use Rattle.std.proofs.Common.{length-append, length-take, take, drop, ◌⊎◌, inl, inr, get_or, count_by, take-append-drop, zero-add}
use Rattle.std.proofs.lemmas.List.Sums.{sum_by-append}
use Rattle.std.specs.Option.{option_map}
use Rattle.std.proofs.lemmas.Bool.{false≢true, leb-true, le-leb}
use Rattle.std.proofs.lemmas.List.{take_more}
use Rattle.regex_ast.specs.Expressions.{Expression, star, plus, maybe, tree_of}
use Rattle.regex_ast.specs.declared.regex.Regex.{Regex}
use Rattle.regex_ast.specs.Spelling.{Cut, cuts_text, pieces_of, AreCutTexts, IsPiece, SpellsInCuts}
use Rattle.regex_ast.specs.Refusals.{HasContinuation, IsBrokenAt, is_class, is_opening, is_closing, IsEmptyClass, IsTooDeep, IsOneTooMany, NoPlace}
use Rattle.regex_ast.specs.Refusals.{IsFirstPlace, AreWithinLimits, SpellsWithinLimits, IsCause}
use Rattle.regex_ast.specs.Lexing.{lexed}
use Rattle.regex_ast.specs.Nests.{Nest, levels, put, signed, nest_end, depth_of, first_offset, is_nil, noted_piece, State, reading, accepted, stepped}
use Rattle.regex_ast.specs.Nests.{after_byte, after_bytes, no_breaches, first_state, judged, judged_if_whole, answer_of, StopsReading, StopsAt}
use Rattle.regex_ast.specs.declared.bad_regex.BadRegex.{BadRegex}
use Rattle.regex_ast.specs.declared.bad_regex.BadRegex.TheVariants.{Shape, EmptyClass, TooDeep, TooManyPositions, NoMemory}
use Rattle.regex_ast.specs.declared.breaches.Breaches.{Breaches}
use Rattle.regex_ast.specs.declared.lexer.Piece.{Piece}
use Rattle.regex_ast.specs.declared.lexer.Piece.TheVariants.{OneOf, Open, Close, Bar, StarSign, PlusSign, MaybeSign}
use Rattle.regex_ast.specs.declared.lexer.Mode.{Mode}
use Rattle.regex_ast.specs.declared.lexer.Mode.TheVariants.{Between, Escaped, Opened, Inside}
use Rattle.regex_ast.specs.declared.lexer.Place.{Place}
use Rattle.regex_ast.specs.declared.lexer.Step.{Step}
use Rattle.regex_ast.specs.declared.lexer.Step.TheVariants.{Refuse, Go, Done}
use Rattle.regex_ast.proofs.PieceLemmas.{Moves, piece_completes, Partial, Result as Becomes, byte_read, partial_completes}
use Rattle.regex_ast.proofs.RowLemmas.{puts, bottom, puts_then, spelled_put, finished_spelled, can_finish}

-- ---- lists of cuts
text_of-snoc : (cuts : List Cut) (c : Cut) → cuts_text (cuts ++ c ∷ []) ≡ cuts_text cuts ++ c.0
text_of-snoc [] c = append-nil c.0
text_of-snoc (d ∷ cuts) c = ap (λ t. d.0 ++ t) (text_of-snoc cuts c) ∙ sym (append_assoc d.0 (cuts_text cuts) c.0)

text_of-append : (cuts more : List Cut) → cuts_text (cuts ++ more) ≡ cuts_text cuts ++ cuts_text more
text_of-append [] more = refl
text_of-append (d ∷ cuts) more = ap (λ t. d.0 ++ t) (text_of-append cuts more) ∙ sym (append_assoc d.0 (cuts_text cuts) (cuts_text more))

pieces_of-append : (cuts more : List Cut) → pieces_of (cuts ++ more) ≡ pieces_of cuts ++ pieces_of more
pieces_of-append [] more = refl
pieces_of-append (d ∷ cuts) more = ap (λ t. d.1 ∷ t) (pieces_of-append cuts more)

AreCuts-append : (cuts more : List Cut) → AreCutTexts cuts → AreCutTexts more → AreCutTexts (cuts ++ more)
AreCuts-append [] more h k = k
AreCuts-append (d ∷ cuts) more h k = (h.0, AreCuts-append cuts more h.1 k)

pub count-snoc : (f : Cut → Bool) (cuts : List Cut) (c : Cut) → count_by f (cuts ++ c ∷ []) ≡ count_by f cuts + (if f c then 1 else 0)
count-snoc f cuts c = sum_by-append (λ x. cond (f x) 1 0) cuts (c ∷ []) ∙ ap (λ n. count_by f cuts + n) (zero-add (cond (f c) 1 0))

pub none_some : {A : Type 0} {x : A} → None ≡ Some x → ⊥
none_some e = cc

pub some_same : {A : Type 0} {x y : A} → Some x ≡ Some y → x ≡ y
some_same e = cc

cons_nil : {x : ℕ} {xs : List ℕ} → x ∷ xs ≡ [] → ⊥
cons_nil e = cc

no_place : (before : List Cut) (c : Cut) (after : List Cut) → before ++ c ∷ after ≡ [] → ⊥
no_place [] c after e = cc
no_place (d ∷ before) c after e = cc

plus_none : (n : ℕ) → n + 0 ≡ n
plus_none n = omega arith

depth_is : (opens closes depth : ℕ) → opens ≡ closes + depth → opens - closes ≡ depth
depth_is opens closes depth e = omega arith

longer : (text : List ℕ) (b : ℕ) → suc (length text) ≡ length (text ++ b ∷ [])
longer text b = omega (arith, length-append text (b ∷ []))

-- ---- the first place of a kind
unfoldable pub FoundAt : (List Cut → Cut → Type 0) → List Cut → Option ℕ → Type 0
FoundAt Bad cuts None = NoPlace Bad cuts
FoundAt Bad cuts (Some at) = IsFirstPlace Bad cuts at

snoc_place : (cuts before after : List Cut) (cut c : Cut) → cuts ++ cut ∷ [] ≡ before ++ c ∷ after
    → ((before ≡ cuts) × (c ≡ cut)) ⊎ ((rest : List Cut) × (cuts ≡ before ++ c ∷ rest))
snoc_place [] [] after cut c e = let k : c ≡ cut = cc in inl (refl, k)
snoc_place [] (d ∷ before) after cut c e = let k : before ++ c ∷ after ≡ [] = cc in absurd (no_place before c after k)
snoc_place (d ∷ cuts) [] after cut c e = let k : c ≡ d = cc in inr (cuts, ap (λ x. x ∷ cuts) (sym k))
snoc_place (d ∷ cuts) (x ∷ before) after cut c e =
    let k : x ≡ d = cc in let l : cuts ++ cut ∷ [] ≡ before ++ c ∷ after = cc in
    elim (snoc_place cuts before after cut c l) [
      | inl r ↦ inl (ap (λ y. y ∷ before) k ∙ ap (λ y. d ∷ y) r.0, r.1)
      | inr r ↦ inr (r.0, ap (λ y. y ∷ cuts) (sym k) ∙ ap (λ y. x ∷ y) r.1)
    ]

no_more_place : (Bad : List Cut → Cut → Type 0) (cuts : List Cut) (cut : Cut) → NoPlace Bad cuts → (Bad cuts cut → ⊥) → NoPlace Bad (cuts ++ cut ∷ [])
no_more_place Bad cuts cut none fine before c after e bad =
    elim (snoc_place cuts before after cut c e) [
      | inl r ↦ fine (subst (λ x. Bad x cut) r.0 (subst (λ x. Bad before x) r.1 bad))
      | inr r ↦ none before c r.0 r.1 bad
    ]

found_more : (Bad : List Cut → Cut → Type 0) (cuts : List Cut) (cut : Cut) (o : Option ℕ) (test : Bool) → FoundAt Bad cuts o → (test ≡ true → Bad cuts cut)
    → (Bad cuts cut → test ≡ true)
    → FoundAt Bad (cuts ++ cut ∷ []) (first_offset o test (length (cuts_text cuts)))
unfolding FoundAt
found_more Bad cuts cut (Some at) test h yes' no' = (
  h.0,
  h.1,
  h.2 ++ cut ∷ [],
  ap (λ x. x ++ cut ∷ []) h.3 ∙ append_assoc h.0 (h.1 ∷ h.2) (cut ∷ []),
  h.4,
  h.5,
  h.6,
)
found_more Bad cuts cut None true h yes' no' = (cuts, cut, [], refl, yes' refl, h, refl)
found_more Bad cuts cut None false h yes' no' = no_more_place Bad cuts cut h (λ b. false≢true (no' b))

found_same : (Bad : List Cut → Cut → Type 0) (cuts : List Cut) (cut : Cut) (o : Option ℕ) → FoundAt Bad cuts o → (Bad cuts cut → ⊥)
    → FoundAt Bad (cuts ++ cut ∷ []) o
unfolding FoundAt
found_same Bad cuts cut (Some at) h fine = (h.0, h.1, h.2 ++ cut ∷ [], ap (λ x. x ++ cut ∷ []) h.3 ∙ append_assoc h.0 (h.1 ∷ h.2) (cut ∷ []), h.4, h.5, h.6)
found_same Bad cuts cut None h fine = no_more_place Bad cuts cut h fine

-- what was found in the cuts
pub record FoundIn (cuts : List Cut) (f : Breaches) : Type 0 where
  pub counted : f.classes ≡ count_by is_class cuts
  pub empties : FoundAt IsEmptyClass cuts f.empty
  pub deeps : FoundAt IsTooDeep cuts f.deep
  pub manies : FoundAt IsOneTooMany cuts f.many

-- how deep the stack is after the cuts
AsDeep : List Cut → Nest → Type 0
AsDeep cuts s = count_by is_opening cuts ≡ count_by is_closing cuts + depth_of s

nil_true : (set : List ℕ) → is_nil set ≡ true → OneOf set ≡ OneOf []
nil_true [] e = refl
nil_true (x ∷ set) e = absurd (false≢true e)

true_nil : (set : List ℕ) → OneOf set ≡ OneOf [] → is_nil set ≡ true
true_nil [] e = refl
true_nil (x ∷ set) e = let k : x ∷ set ≡ [] = cc in absurd (cons_nil k)

same_found : (cuts : List Cut) (t : List ℕ) (p : Piece) (f : Breaches) → FoundIn cuts f → is_class (t, p) ≡ false → (p ≡ OneOf [] → ⊥) → (p ≡ Open → ⊥)
    → FoundIn (cuts ++ (t, p) ∷ []) f
same_found cuts t p f h other full level = record {
  counted = h.counted ∙ sym (count-snoc is_class cuts (t, p) ∙ ap (λ x. count_by is_class cuts + (if x then 1 else 0)) other
      ∙ plus_none (count_by is_class cuts));
  empties = found_same IsEmptyClass cuts (t, p) f.empty h.empties full;
  deeps = found_same IsTooDeep cuts (t, p) f.deep h.deeps (λ b. level b.0);
  manies = found_same IsOneTooMany cuts (t, p) f.many h.manies (λ b. false≢true (sym other ∙ b.0));
}

noted_found : (cuts : List Cut) (t : List ℕ) (p : Piece) (s : Nest) (f : Breaches) → FoundIn cuts f → AsDeep cuts s
    → FoundIn (cuts ++ (t, p) ∷ []) (noted_piece p (depth_of s) (length (cuts_text cuts)) f)
unfolding AsDeep
noted_found cuts t (OneOf set) s f h d = record {
  counted = ap (λ n. n + 1) h.counted ∙ sym (count-snoc is_class cuts (t, OneOf set));
  empties = found_more IsEmptyClass cuts (t, OneOf set) f.empty (is_nil set) h.empties (nil_true set) (true_nil set);
  deeps = found_same IsTooDeep cuts (t, OneOf set) f.deep h.deeps (λ b. let k : OneOf set ≡ Open = b.0 in cc);
  manies = found_more IsOneTooMany cuts (t, OneOf set) f.many (nat_le 200 f.classes) h.manies
      (λ e. (refl, subst (λ n. 200 ≤ n) h.counted (leb-true 200 f.classes e))) (λ b. le-leb 200 f.classes (subst (λ n. 200 ≤ n) (sym h.counted) b.1));
}
noted_found cuts t Open s f h d = record {
  counted = h.counted ∙ sym (count-snoc is_class cuts (t, Open) ∙ plus_none (count_by is_class cuts));
  empties = found_same IsEmptyClass cuts (t, Open) f.empty h.empties (λ b. let k : Open ≡ OneOf [] = b in cc);
  deeps = found_more IsTooDeep cuts (t, Open) f.deep (nat_le 64 (depth_of s)) h.deeps
      (λ e. (refl, subst (λ n. 64 ≤ n) (sym (depth_is (count_by is_opening cuts) (count_by is_closing cuts) (depth_of s) d)) (leb-true 64 (depth_of s) e)))
      (λ b. le-leb 64 (depth_of s) (subst (λ n. 64 ≤ n) (depth_is (count_by is_opening cuts) (count_by is_closing cuts) (depth_of s) d) b.1));
  manies = found_same IsOneTooMany cuts (t, Open) f.many h.manies (λ b. false≢true b.0);
}
noted_found cuts t Close s f h d = same_found cuts t Close f h refl (λ k. let k' : Close ≡ OneOf [] = k in cc) (λ k. let k' : Close ≡ Open = k in cc)
noted_found cuts t Bar s f h d = same_found cuts t Bar f h refl (λ k. let k' : Bar ≡ OneOf [] = k in cc) (λ k. let k' : Bar ≡ Open = k in cc)
noted_found cuts t StarSign s f h d = same_found cuts t StarSign f h refl (λ k. let k' : StarSign ≡ OneOf [] = k in cc) (λ k. let k' : StarSign ≡ Open =
    k in cc)
noted_found cuts t PlusSign s f h d = same_found cuts t PlusSign f h refl (λ k. let k' : PlusSign ≡ OneOf [] = k in cc) (λ k. let k' : PlusSign ≡ Open =
    k in cc)
noted_found cuts t MaybeSign s f h d = same_found cuts t MaybeSign f h refl (λ k. let k' : MaybeSign ≡ OneOf [] = k in cc) (λ k. let k' : MaybeSign ≡ Open =
    k in cc)

-- the stack stays as deep as the cuts say
signed_deep : (sign : Expression → Expression) (s u : Nest) → signed sign s ≡ Some u → depth_of u ≡ depth_of s
signed_deep sign (levels o c b None) u e = absurd (none_some e)
signed_deep sign (levels o c b (Some f)) u e = let k : levels o c b (Some (sign f)) ≡ u = cc in ap depth_of (sym k)

level_deep : (cuts : List Cut) (c : Cut) (s u : Nest) → is_opening c ≡ false → is_closing c ≡ false → depth_of u ≡ depth_of s → AsDeep cuts s
    → AsDeep (cuts ++ c ∷ []) u
unfolding AsDeep
level_deep cuts c s u a b same d =
    let x : count_by is_opening (cuts ++ c ∷ []) ≡ count_by is_opening cuts = count-snoc is_opening cuts c ∙ ap
    (λ t. count_by is_opening cuts + (if t then 1 else 0)) a ∙ plus_none _ in
    let y : count_by is_closing (cuts ++ c ∷ []) ≡ count_by is_closing cuts = count-snoc is_closing cuts c ∙ ap
    (λ t. count_by is_closing cuts + (if t then 1 else 0)) b ∙ plus_none _ in
    omega arith

put_deep : (cuts : List Cut) (t : List ℕ) (p : Piece) (s u : Nest) → put p s ≡ Some u → AsDeep cuts s → AsDeep (cuts ++ (t, p) ∷ []) u
unfolding AsDeep
put_deep cuts t (OneOf set) (levels o c b f) u e d = let k = some_same e in level_deep cuts (t, OneOf set) (levels o c b f) u refl refl (ap depth_of (sym k)) d
put_deep cuts t Open (levels o c b f) u e d =
    let k : depth_of u ≡ suc (length o) = ap depth_of (sym (some_same e)) in
    let x : count_by is_opening (cuts ++ (t, Open) ∷ []) ≡ count_by is_opening cuts + 1 = count-snoc is_opening cuts (t, Open) in
    let y : count_by is_closing (cuts ++ (t, Open) ∷ []) ≡ count_by is_closing cuts = count-snoc is_closing cuts (t, Open) ∙ plus_none _ in
    omega arith
put_deep cuts t Close (levels [] c b f) u e d = absurd (none_some e)
put_deep cuts t Close (levels (l ∷ o) c b None) u e d = absurd (none_some e)
put_deep cuts t Close (levels (l ∷ o) c b (Some f)) u e d =
    let k : depth_of u ≡ length o = ap depth_of (sym (some_same e)) in
    let x : count_by is_opening (cuts ++ (t, Close) ∷ []) ≡ count_by is_opening cuts = count-snoc is_opening cuts (t, Close) ∙ plus_none _ in
    let y : count_by is_closing (cuts ++ (t, Close) ∷ []) ≡ count_by is_closing cuts + 1 = count-snoc is_closing cuts (t, Close) in
    omega arith
put_deep cuts t Bar (levels o c b None) u e d = absurd (none_some e)
put_deep cuts t Bar (levels o c b (Some f)) u e d = level_deep cuts (t, Bar) (levels o c b (Some f)) u refl refl (ap depth_of (sym (some_same e))) d
put_deep cuts t StarSign s u e d = level_deep cuts (t, StarSign) s u refl refl (signed_deep star s u e) d
put_deep cuts t PlusSign s u e d = level_deep cuts (t, PlusSign) s u refl refl (signed_deep plus s u e) d
put_deep cuts t MaybeSign s u e d = level_deep cuts (t, MaybeSign) s u refl refl (signed_deep maybe s u e) d

-- ---- a text that is read so far
pub Reads : List ℕ → State → Type 0
Reads text (reading m s f start) =
    (cuts : List Cut) × (rest : List ℕ) × AreCutTexts cuts × (puts bottom (pieces_of cuts) ≡ Some s) × Partial rest m × (text ≡ cuts_text cuts ++ rest)
    × FoundIn cuts f × AsDeep cuts s × (start ≡ length (cuts_text cuts))

none_in : (Bad : List Cut → Cut → Type 0) → NoPlace Bad []
none_in Bad before c after e bad = no_place before c after (sym e)

pub first_reads : Reads [] first_state
unfolding Reads FoundAt AsDeep
first_reads = (
  [],
  [],
  tt,
  refl,
  refl,
  refl,
  record {
    counted = refl;
    empties = none_in IsEmptyClass;
    deeps = none_in IsTooDeep;
    manies =
        none_in IsOneTooMany;
  },
  refl,
  refl,
)

-- a piece is read to its end
piece_reads : (text : List ℕ) (s : Nest) (f : Breaches) (start : ℕ) (cuts : List Cut) (t : List ℕ) (p : Piece) (o : Option Nest) (u : State)
    → AreCutTexts cuts → puts bottom (pieces_of cuts) ≡ Some s → IsPiece t p → text ≡ cuts_text cuts ++ t → FoundIn cuts f → AsDeep cuts s
    → start ≡ length (cuts_text cuts)
    → put p s ≡ o → option_map (λ x. reading Between x (noted_piece p (depth_of s) start f) (length text)) o ≡ Some u → Reads text u
unfolding Reads
piece_reads text s f start cuts t p None u are is piece at found deep begins e g = absurd (none_some g)
piece_reads text s f start cuts t p (Some x) u are is piece at found deep begins e g =
    subst (Reads text) (some_same g) (
      cuts ++ (t, p) ∷ [],
      [],
      AreCuts-append cuts ((t, p) ∷ []) are (piece, tt),
      ap (puts bottom) (pieces_of-append cuts ((t, p) ∷ [])) ∙ puts_then (pieces_of cuts) (p ∷ []) bottom s is ∙ ap (λ y. option_and_then (λ z. Some z) y) e,
      refl,
      at ∙ sym (text_of-snoc cuts (t, p)) ∙ sym (append-nil (cuts_text (cuts ++ (t, p) ∷ []))),
      subst (λ n. FoundIn (cuts ++ (t, p) ∷ []) (noted_piece p (depth_of s) n f)) (sym begins) (noted_found cuts t p s f found deep),
      put_deep cuts t p s x e deep,
      ap length (at ∙ sym (text_of-snoc cuts (t, p))),
    )

-- one more byte
step_reads : (text : List ℕ) (b : ℕ) (s : Nest) (f : Breaches) (start : ℕ) (cuts : List Cut) (rest : List ℕ) (step : Step) (u : State)
    → AreCutTexts cuts → puts bottom (pieces_of cuts) ≡ Some s → text ≡ cuts_text cuts ++ rest → FoundIn cuts f → AsDeep cuts s
    → start ≡ length (cuts_text cuts)
    → Becomes (rest ++ b ∷ []) step → stepped step s f start (suc (length text)) ≡ Some u → Reads (text ++ b ∷ []) u
unfolding Reads
step_reads text b s f start cuts rest Refuse u are is at found deep begins r e = absurd (none_some e)
step_reads text b s f start cuts rest (Go m) u are is at found deep begins r e =
    subst (Reads (text ++ b ∷ [])) (some_same e) (
      cuts,
      rest ++ b ∷ [],
      are,
      is,
      r,
      ap (λ x. x ++ b ∷ []) at ∙ append_assoc (cuts_text cuts) rest (b ∷ []),
      found,
      deep,
      begins,
    )
step_reads text b s f start cuts rest (Done p) u are is at found deep begins r e =
    piece_reads (text ++ b ∷ []) s f start cuts (rest ++ b ∷ []) p (put p s) u are is r (ap (λ x. x ++ b ∷ []) at ∙ append_assoc (cuts_text cuts) rest
    (b ∷ [])) found deep begins refl
    (subst (λ n. option_map (λ x. reading Between x (noted_piece p (depth_of s) start f) n) (put p s) ≡ Some u) (longer text b) e)

byte_reads : (text : List ℕ) (b : ℕ) (s u : State) → Reads text s → after_byte s (length text) b ≡ Some u → Reads (text ++ b ∷ []) u
unfolding Reads
byte_reads text b (reading m s f start) u h e =
    step_reads text b s f start h.0 h.1 (lexed m b) u h.2 h.3 h.5 h.6 h.7 h.8 (byte_read h.1 m b h.4) e

on_read : (more text : List ℕ) (b : ℕ) (s u : State) (o : Option State) → after_byte s (length text) b ≡ o → Reads text s
    → option_and_then (λ t. after_bytes t (suc (length text)) more) o ≡ Some u
    → ((v : State) → Reads (text ++ b ∷ []) v → after_bytes v (length (text ++ b ∷ [])) more ≡ Some u → Reads ((text ++ b ∷ []) ++ more) u)
    → Reads (text ++ (b ∷ more)) u
on_read more text b s u None e h k rest = absurd (none_some k)
on_read more text b s u (Some v) e h k rest =
    subst (λ x. Reads x u) (append_assoc text (b ∷ []) more)
    (rest v (byte_reads text b s v h e) (subst (λ n. after_bytes v n more ≡ Some u) (longer text b) k))

bytes_read : (more text : List ℕ) (s u : State) → Reads text s → after_bytes s (length text) more ≡ Some u → Reads (text ++ more) u
bytes_read [] text s u h e = subst (λ x. Reads x u) (sym (append-nil text)) (subst (Reads text) (some_same e) h)
bytes_read (b ∷ more) text s u h e = on_read more text b s u (after_byte s (length text) b) refl h e
    (λ v k l. bytes_read more (text ++ b ∷ []) v u k l)

-- a text is read as it is spelled
pub all_read : (text : List ℕ) (s : State) → after_bytes first_state 0 text ≡ Some s → Reads text s
all_read text s e = bytes_read text [] first_state s first_reads e

-- ---- what is spelled is read
-- the bytes that lead from one mode to another change nothing else
moves_run : (t u : List ℕ) (m n : Mode) (s : Nest) (f : Breaches) (start at : ℕ) → Moves m t n
    → after_bytes (reading m s f start) at (t ++ u) ≡ after_bytes (reading n s f start) (at + length t) u
moves_run [] u m n s f start at h = ap (λ k. after_bytes (reading k s f start) at u) h ∙ ap (λ k. after_bytes (reading n s f start) k u) (sym (plus_none at))
moves_run (b ∷ t) u m n s f start at h =
    let e : suc at + length t ≡ at + suc (length t) = omega arith in
    ap (λ k. option_and_then (λ x. after_bytes x (suc at) (t ++ u)) (stepped k s f start (suc at))) h.1
    ∙ moves_run t u h.0 n s f start (suc at) h.2 ∙ ap (λ k. after_bytes (reading n s f start) k u) e

cut_run : (t u : List ℕ) (p : Piece) (s : Nest) (f : Breaches) (at : ℕ) → IsPiece t p
    → after_bytes (reading Between s f at) at (t ++ u) ≡ option_and_then (λ x. after_bytes x (at + length t) u) (accepted p s f at (at + length t))
cut_run t u p s f at h =
    let k = piece_completes h in
    let e : suc (at + length k.0) ≡ at + length t = omega (arith, ap length k.5, length-append k.0 (k.1 ∷ [])) in
    ap (λ x. after_bytes (reading Between s f at) at (x ++ u)) k.5 ∙ ap (λ x. after_bytes (reading Between s f at) at x) (append_assoc k.0 (k.1 ∷ []) u)
    ∙ moves_run k.0 (k.1 ∷ u) Between k.2 s f at at k.3
    ∙ ap (λ x. option_and_then (λ y. after_bytes y (suc (at + length k.0)) u) (stepped x s f at (suc (at + length k.0)))) k.4
    ∙ ap (λ n. option_and_then (λ y. after_bytes y n u) (accepted p s f at n)) e

-- the state after these cuts, and what was found in all of them
After : List Cut → List Cut → Nest → Breaches → Nest → Type 0
After done cuts s f t =
    (g : Breaches) × (after_bytes (reading Between s f (length (cuts_text done))) (length (cuts_text done)) (cuts_text cuts)
    ≡ Some (reading Between t g (length (cuts_text done) + length (cuts_text cuts)))) × FoundIn (done ++ cuts) g

cut_put : (done cuts : List Cut) (c : Cut) (s t : Nest) (f : Breaches) (o : Option Nest) → IsPiece c.0 c.1 → put c.1 s ≡ o → FoundIn done f → AsDeep done s
    → option_and_then (λ x. puts x (pieces_of cuts)) o ≡ Some t
    → ((u : Nest) (g : Breaches) → FoundIn (done ++ c ∷ []) g → AsDeep (done ++ c ∷ []) u → puts u (pieces_of cuts) ≡ Some t → After (done
    ++ c ∷ []) cuts u g t)
    → After done (c ∷ cuts) s f t
unfolding After
cut_put done cuts c s t f None is e found deep h rest = absurd (none_some h)
cut_put done cuts c s t f (Some u) is e found deep h rest =
    let n = length (cuts_text done) in
    let g = noted_piece c.1 (depth_of s) n f in
    let r = rest u g (noted_found done c.0 c.1 s f found deep) (put_deep done c.0 c.1 s u e deep) h in
    let long : length (cuts_text (done ++ c ∷ [])) ≡ n + length c.0 = ap length (text_of-snoc done c) ∙ length-append (cuts_text done) c.0 in
    let ends : length (cuts_text (done ++ c ∷ [])) + length (cuts_text cuts) ≡ n + length (c.0 ++ cuts_text cuts) =
    omega (arith, long, length-append c.0 (cuts_text cuts)) in (
      r.0,
      cut_run c.0 (cuts_text cuts) c.1 s f n is
          ∙ ap (λ o. option_and_then (λ x. after_bytes x (n + length c.0) (cuts_text cuts)) (option_map (λ x. reading Between x g (n + length c.0)) o)) e
          ∙ ap (λ k. after_bytes (reading Between u g k) k (cuts_text cuts)) (sym long) ∙ r.1 ∙ ap (λ k. Some (reading Between t r.0 k)) ends,
      subst (λ x. FoundIn x r.0) (append_assoc done (c ∷ []) cuts) r.2,
    )

cuts_run : (cuts done : List Cut) (s t : Nest) (f : Breaches) → AreCutTexts cuts → FoundIn done f → AsDeep done s → puts s (pieces_of cuts) ≡ Some t
    → After done cuts s f t
unfolding After
cuts_run [] done s t f are found deep h = (
  f,
  ap (λ x. Some (reading Between x f (length (cuts_text done)))) (some_same h) ∙ ap (λ k. Some (reading Between t f k))
      (sym (plus_none (length (cuts_text done)))),
  subst (λ x. FoundIn x f) (sym (append-nil done)) found,
)
cuts_run (c ∷ cuts) done s t f are found deep h =
    cut_put done cuts c s t f (put c.1 s) are.0 refl found deep h (λ u g k l m. cuts_run cuts (done ++ c ∷ []) u t g are.1 k l m)

-- a text that is spelled in cuts is read to its end
pub spelled_read : (text : List ℕ) (cuts : List Cut) (e : Expression) → SpellsInCuts text cuts e
    → (t : Nest) × (f : Breaches) × (start : ℕ) × (after_bytes first_state 0 text ≡ Some (reading Between t f start)) × (nest_end t ≡ Some e) × FoundIn cuts f
unfolding After AsDeep FoundAt
spelled_read text cuts e h =
    let k = spelled_put h.2 in
    let r = cuts_run cuts [] bottom k.0 no_breaches h.1 (record {
      counted = refl;
      empties = none_in IsEmptyClass;
      deeps = none_in IsTooDeep;
      manies =
          none_in IsOneTooMany;
    }) refl k.1 in
    (k.0, r.0, _, ap (after_bytes first_state 0) h.0 ∙ r.1, k.2, r.2)

-- ---- prefixes of texts
bind_bytes : (t u : List ℕ) (at : ℕ) (o : Option State) → ((x : State) → after_bytes x (suc at) (t ++ u)
    ≡ option_and_then (λ y. after_bytes y (suc at + length t) u) (after_bytes x (suc at) t))
    → option_and_then (λ x. after_bytes x (suc at) (t ++ u)) o ≡ option_and_then (λ x. after_bytes x (at + suc (length t)) u)
    (option_and_then (λ x. after_bytes x (suc at) t) o)
bind_bytes t u at None rest = refl
bind_bytes t u at (Some x) rest =
    let e : suc at + length t ≡ at + suc (length t) = omega arith in
    rest x ∙ ap (λ n. option_and_then (λ y. after_bytes y n u) (after_bytes x (suc at) t)) e

after_append : (t u : List ℕ) (s : State) (at : ℕ) → after_bytes s at (t ++ u) ≡ option_and_then (λ x. after_bytes x (at + length t) u) (after_bytes s at t)
after_append [] u s at = ap (λ n. after_bytes s n u) (sym (plus_none at))
after_append (b ∷ t) u s at = bind_bytes t u at (after_byte s at b) (λ x. after_append t u x (suc at))

-- a prefix that cannot be read is the prefix of no expression
pub stopped : (front : List ℕ) → after_bytes first_state 0 front ≡ None → HasContinuation front → ⊥
stopped front e h =
    let r = spelled_read (front ++ h.0) h.2.0 h.1 h.2.1 in
    none_some (sym (after_append front h.0 first_state 0 ∙ ap (λ o. option_and_then (λ x. after_bytes x (0 + length front) h.0) o) e) ∙ r.3)

-- a prefix that is read is the prefix of an expression
continued : (front : List ℕ) (s : State) → Reads front s → HasContinuation front
unfolding Reads
continued front (reading m s f start) h =
    let piece = partial_completes h.1 m h.4 in
    let end = can_finish s piece.1 in
    let cuts = h.0 ++ (h.1 ++ piece.0, OneOf piece.1) ∷ end.0 in (
      piece.0 ++ cuts_text end.0,
      end.2,
      (
        cuts,
        (
          ap (λ x. x ++ (piece.0 ++ cuts_text end.0)) h.5 ∙ append_assoc (cuts_text h.0) h.1 (piece.0 ++ cuts_text end.0)
              ∙ ap (λ x. cuts_text h.0 ++ x) (sym (append_assoc h.1 piece.0 (cuts_text end.0))) ∙ sym
              (text_of-append h.0 ((h.1 ++ piece.0, OneOf piece.1) ∷ end.0)),
          AreCuts-append h.0 ((h.1 ++ piece.0, OneOf piece.1) ∷ end.0) h.2 (piece.2, end.3),
          finished_spelled (pieces_of cuts) end.1 end.2
              (ap (puts bottom) (pieces_of-append h.0 ((h.1 ++ piece.0, OneOf piece.1) ∷ end.0))
              ∙ puts_then (pieces_of h.0) (OneOf piece.1 ∷ pieces_of end.0) bottom s h.3 ∙ end.4) end.5,
        ),
      ),
    )

-- ---- the answers
pub no_place_found : (Bad : List Cut → Cut → Type 0) (cuts : List Cut) (o : Option ℕ) → FoundAt Bad cuts o → NoPlace Bad cuts → o ≡ None
unfolding FoundAt
no_place_found Bad cuts None h none = refl
no_place_found Bad cuts (Some at) h none = absurd (none h.0 h.1 h.2 h.3 h.4)

within_judged : (cuts : List Cut) (f : Breaches) (e : Expression) → FoundIn cuts f → AreWithinLimits cuts → judged f.empty f.deep f.many e ≡ Ok e
within_judged cuts f e h w =
    ap (λ o. judged o f.deep f.many e) (no_place_found IsEmptyClass cuts f.empty h.empties w.no_empty_class)
    ∙ ap (λ o. judged None o f.many e) (no_place_found IsTooDeep cuts f.deep h.deeps w.not_too_deep)
    ∙ ap (λ o. judged None None o e) (no_place_found IsOneTooMany cuts f.many h.manies w.not_too_many)

-- what is spelled within the limits is the answer
pub only_answer : (text : List ℕ) (e : Expression) (s : State) (end : ℕ) → SpellsWithinLimits text e → after_bytes first_state 0 text ≡ Some s
    → answer_of s end ≡ Ok e
only_answer text e s end h k =
    let r = spelled_read text h.0 e h.1 in
    let same : reading Between r.0 r.1 r.2 ≡ s = some_same (sym r.3 ∙ k) in
    subst (λ x. answer_of x end ≡ Ok e) same (ap (λ o. judged_if_whole o r.1 end) r.4 ∙ within_judged h.0 r.1 e r.5 h.2)

-- a text that is spelled is read to its end
pub not_stopped : (text : List ℕ) (e : Expression) (refusal : BadRegex) → SpellsWithinLimits text e → StopsReading text refusal → refusal ≡ NoMemory
not_stopped text e (Shape at) h k =
    absurd (stopped (take (at + 1) text) k.2 (drop (at + 1) text, e, (h.0, subst (λ x. SpellsInCuts x h.0 e) (sym (take-append-drop (at + 1) text)) h.1)))
not_stopped text e (EmptyClass at) h k = absurd k
not_stopped text e (TooDeep at) h k = absurd k
not_stopped text e (TooManyPositions at) h k = absurd k
not_stopped text e NoMemory h k = refl

-- where a byte may not stand
pub stop_is_cause : (text : List ℕ) (refusal : BadRegex) → StopsReading text refusal → IsCause text refusal
stop_is_cause text (Shape at) k = (
  omega (arith, k.0),
  continued (take at text) k.1.0 (all_read (take at text) k.1.0 k.1.1),
  (λ l. stopped (take (at + 1) text) k.2),
  λ e h. stopped (take (at + 1) text) k.2 (drop (at + 1) text, e, (h.0, subst (λ x. SpellsInCuts x h.0 e) (sym (take-append-drop (at + 1) text)) h.1)),
)
stop_is_cause text (EmptyClass at) k = absurd k
stop_is_cause text (TooDeep at) k = absurd k
stop_is_cause text (TooManyPositions at) k = absurd k
stop_is_cause text NoMemory k = tt

pub mode_nest : {t u : Nest} {f g : Breaches} {i j : ℕ} → reading Between t f i ≡ reading Between u g j → t ≡ u
mode_nest e = cc

pub other_mode : {t u : Nest} {f g : Breaches} {i j : ℕ} → reading Escaped t f i ≡ reading Between u g j → ⊥
other_mode e = let k : Escaped ≡ Between = cc in cc

opened_mode : {t u : Nest} {f g : Breaches} {i j : ℕ} → reading Opened t f i ≡ reading Between u g j → ⊥
opened_mode e = let k : Opened ≡ Between = cc in cc

inside_mode : {t u : Nest} {f g : Breaches} {i j : ℕ} {negated : Bool} {set : List ℕ} {place : Place}
    → reading (Inside negated set place) t f i ≡ reading Between u g j → ⊥
inside_mode {negated} {set} {place} e = let k : Inside negated set place ≡ Between = cc in cc

one_step : (o : Option State) → option_and_then (λ x. Some x) o ≡ o
one_step None = refl
one_step (Some x) = refl

-- ---- one byte after another
one_more_byte : (text : List ℕ) (i : ℕ) (s : State) → i < length text → after_bytes first_state 0 (take i text) ≡ Some s
    → after_bytes first_state 0 (take (i + 1) text) ≡ after_byte s i (get_or text i 0)
one_more_byte text i s h e =
    let long : 0 + length (take i text) ≡ i = omega (arith, length-take i text) in
    ap (after_bytes first_state 0) (take_more text i 0 h) ∙ after_append (take i text) (get_or text i 0 ∷ []) first_state 0
    ∙ ap (λ o. option_and_then (λ x. after_bytes x (0 + length (take i text)) (get_or text i 0 ∷ [])) o) e
    ∙ one_step (after_byte s (0 + length (take i text)) (get_or text i 0)) ∙ ap (λ n. after_byte s n (get_or text i 0)) long

pub goes_on : (text : List ℕ) (i : ℕ) (s u : State) → i < length text → after_bytes first_state 0 (take i text) ≡ Some s
    → after_byte s i (get_or text i 0) ≡ Some u → after_bytes first_state 0 (take (i + 1) text) ≡ Some u
goes_on text i s u h e k = one_more_byte text i s h e ∙ k

pub stops_here : (text : List ℕ) (i : ℕ) (s : State) (refusal : BadRegex) → i < length text → after_bytes first_state 0 (take i text) ≡ Some s
    → StopsAt (after_byte s i (get_or text i 0)) i refusal → StopsReading text refusal
stops_here text i s (Shape at) h e k = subst (λ n. StopsReading text (Shape n)) (sym k.0) (h, (s, e), one_more_byte text i s h e ∙ k.1)
stops_here text i s (EmptyClass at) h e k = absurd k
stops_here text i s (TooDeep at) h e k = absurd k
stops_here text i s (TooManyPositions at) h e k = absurd k
stops_here text i s NoMemory h e k = tt

-- ---- the end of the text
spelled_so : (text : List ℕ) (t : Nest) (f : Breaches) (start : ℕ) (e : Expression) → Reads text (reading Between t f start) → nest_end t ≡ Some e
    → (cuts : List Cut) × SpellsInCuts text cuts e × FoundIn cuts f
unfolding Reads
spelled_so text t f start e h k =
    (h.0, (h.5 ∙ ap (λ x. cuts_text h.0 ++ x) h.4 ∙ append-nil (cuts_text h.0), h.2, finished_spelled (pieces_of h.0) t e h.3 k), h.6)

-- the state is not that of an expression's end
abbrev NotWhole : State → Type 0
NotWhole s = (t : Nest) (f : Breaches) (start : ℕ) (e : Expression) → s ≡ reading Between t f start → nest_end t ≡ Some e → ⊥

pub take_whole : (xs : List ℕ) → take (length xs) xs ≡ xs
take_whole [] = refl
take_whole (x ∷ xs) = ap (λ t. x ∷ t) (take_whole xs)

broken_end : (text : List ℕ) (s : State) → after_bytes first_state 0 text ≡ Some s → NotWhole s → IsBrokenAt text (length text)
broken_end text s e not_whole = (
  omega arith,
  subst HasContinuation (sym (take_whole text)) (continued text s (all_read text s e)),
  (λ h. absurd (omega arith)),
  λ x h. let r = spelled_read text h.0 x h.1 in not_whole r.0 r.1 r.2 x (some_same (sym e ∙ r.3)) r.4,
)

pub ok_err : {A B : Type 0} {x : A} {y : B} → ◌≡◌ {A = Result A B} (Ok x) (Err y) → ⊥
ok_err e = cc

pub ok_same : {A B : Type 0} {x y : A} → ◌≡◌ {A = Result A B} (Ok x) (Ok y) → x ≡ y
ok_same e = cc

pub err_same : {A B : Type 0} {x y : B} → ◌≡◌ {A = Result A B} (Err x) (Err y) → x ≡ y
err_same e = cc

limits_found : (cuts : List Cut) (f : Breaches) (e x : Expression) (empty deep many : Option ℕ) → FoundAt IsEmptyClass cuts empty → FoundAt IsTooDeep cuts deep
    → FoundAt IsOneTooMany cuts many
    → judged empty deep many e ≡ Ok x → AreWithinLimits cuts × (e ≡ x)
unfolding FoundAt
limits_found cuts f e x (Some at) deep many a b c h = absurd (ok_err (sym h))
limits_found cuts f e x None (Some at) many a b c h = absurd (ok_err (sym h))
limits_found cuts f e x None None (Some at) a b c h = absurd (ok_err (sym h))
limits_found cuts f e x None None None a b c h = (record { no_empty_class = a; not_too_deep = b; not_too_many = c }, ok_same h)

limit_broken : (text : List ℕ) (cuts : List Cut) (e : Expression) (refusal : BadRegex) (empty deep many : Option ℕ) → SpellsInCuts text cuts e
    → FoundAt IsEmptyClass cuts empty → FoundAt IsTooDeep cuts deep → FoundAt IsOneTooMany cuts many → judged empty deep many e ≡ Err refusal
    → IsCause text refusal
unfolding FoundAt
limit_broken text cuts e refusal (Some at) deep many s a b c h = subst (IsCause text) (err_same h) (cuts, e, s, a)
limit_broken text cuts e refusal None (Some at) many s a b c h = subst (IsCause text) (err_same h) (cuts, e, s, (a, b))
limit_broken text cuts e refusal None None (Some at) s a b c h = subst (IsCause text) (err_same h) (cuts, e, s, (a, b, c))
limit_broken text cuts e refusal None None None s a b c h = absurd (ok_err h)

judged_found : (text : List ℕ) (t : Nest) (f : Breaches) (start end : ℕ) (x : Expression) (o : Option Expression) → Reads text (reading Between t f start)
    → nest_end t ≡ o → judged_if_whole o f end ≡ Ok x → SpellsWithinLimits text x
judged_found text t f start end x None h e k = absurd (ok_err (sym k))
judged_found text t f start end x (Some y) h e k =
    let r = spelled_so text t f start y h e in
    let l = limits_found r.0 f y x f.empty f.deep f.many r.2.empties r.2.deeps r.2.manies k in
    (r.0, subst (λ z. SpellsInCuts text r.0 z) l.1 r.1, l.0)

-- what is read is spelled so
pub found_answer : (text : List ℕ) (s : State) (end : ℕ) (e : Expression) → after_bytes first_state 0 text ≡ Some s → answer_of s end ≡ Ok e
    → SpellsWithinLimits text e
found_answer text (reading Between t f start) end e h k = judged_found text t f start end e (nest_end t) (all_read text (reading Between t f start) h) refl k
found_answer text (reading Escaped t f start) end e h k = absurd (ok_err (sym k))
found_answer text (reading Opened t f start) end e h k = absurd (ok_err (sym k))
found_answer text (reading (Inside negated set place) t f start) end e h k = absurd (ok_err (sym k))

judged_refused : (text : List ℕ) (t : Nest) (f : Breaches) (start : ℕ) (refusal : BadRegex) (o : Option Expression)
    → after_bytes first_state 0 text ≡ Some (reading Between t f start) → nest_end t ≡ o
    → judged_if_whole o f (length text) ≡ Err refusal → IsCause text refusal
judged_refused text t f start refusal None h e k =
    subst (IsCause text) (err_same k) (broken_end text (reading Between t f start) h (λ u g i x same whole. none_some (sym e ∙ ap nest_end (mode_nest same)
    ∙ whole)))
judged_refused text t f start refusal (Some y) h e k =
    let r = spelled_so text t f start y (all_read text (reading Between t f start) h) e in
    limit_broken text r.0 y refusal f.empty f.deep f.many r.1 r.2.empties r.2.deeps r.2.manies k

-- each refusal at the end has its cause
pub refused_answer : (text : List ℕ) (s : State) (refusal : BadRegex) → after_bytes first_state 0 text ≡ Some s → answer_of s (length text) ≡ Err refusal
    → IsCause text refusal
refused_answer text (reading Between t f start) refusal h k = judged_refused text t f start refusal (nest_end t) h refl k
refused_answer text (reading Escaped t f start) refusal h k = subst (IsCause text) (err_same k)
    (broken_end text (reading Escaped t f start) h (λ u g i x same whole. other_mode same))
refused_answer text (reading Opened t f start) refusal h k = subst (IsCause text) (err_same k)
    (broken_end text (reading Opened t f start) h (λ u g i x same whole. opened_mode same))
refused_answer text (reading (Inside negated set place) t f start) refusal h k =
    subst (IsCause text) (err_same k) (broken_end text (reading (Inside negated set place) t f start) h (λ u g i x same whole. inside_mode same))

-- what is spelled within the limits is given, unless memory ran out
pub only_match : (r : Result Regex BadRegex) (a : Result Expression BadRegex) (e : Expression) → a ≡ Ok e → IfOk r (λ x. a ≡ Ok (tree_of x))
    → IfErr r (λ x. (x ≡ NoMemory) ⊎ (a ≡ Err x))
    → MatchResult r (λ x. tree_of x ≡ e) (λ x. x ≡ NoMemory)
only_match (Ok x) a e h k l = ok_same (sym k ∙ h)
only_match (Err x) a e h k (inl n) = n
only_match (Err x) a e h k (inr n) = absurd (ok_err (sym h ∙ n))

pub cause_match : (r : Result Regex BadRegex) (text : List ℕ) (s : State) → after_bytes first_state 0 text ≡ Some s
    → IfErr r (λ x. (x ≡ NoMemory) ⊎ (answer_of s (length text) ≡ Err x)) → IfErr r (λ x. IsCause text x)
cause_match (Ok x) text s h k = tt
cause_match (Err x) text s h (inl n) = subst (IsCause text) (sym n) tt
cause_match (Err x) text s h (inr n) = refused_answer text s x h n
