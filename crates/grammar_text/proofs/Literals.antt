-- The steps of reading a literal.
use Rattle.std.proofs.Common.{◌≡◌, ℕ, zero, suc, Bool, true, false, cond, eqb, ◌||◌, ◌+◌, ◌-◌, ◌<◌, ◌≤◌, List, [], ◌∷◌, ◌++◌, length, Option, Some, None, refl}
use Rattle.std.proofs.Common.{sym, ap, subst, ◌∙◌, append_assoc, length-append, arith}
use Rattle.std.proofs.lemmas.List.{append-nil}
use Rattle.std.proofs.lemmas.Bool.{eqb-true, or_parts, not-true}
use Rattle.std.specs.Option.{option_map, option_map_or}
use Rattle.grammar_text.specs.Spelling.{unescaped, is_plain, SpellsByte, SpellsBytes}
use Rattle.grammar_text.specs.Reading.{byte_at, behind_quote, led_by, literal_at}

abbrev some_byte : ℕ → List ℕ → Option (ℕ × List ℕ)
some_byte byte rest = Some (byte, rest)

abbrev some_bytes : List ℕ → List ℕ → Option (List ℕ × List ℕ)
some_bytes bytes rest = Some (bytes, rest)

byte_is : (a : ℕ) (x : List ℕ) (b : ℕ) (y : List ℕ) → some_byte a x ≡ some_byte b y → (a ≡ b) × (x ≡ y)
byte_is a x b y e =
    let left : ℕ × List ℕ = (a, x) in
    let right : ℕ × List ℕ = (b, y) in
    let pairs : left ≡ right = cc in
    (ap (λ (p : ℕ × List ℕ). p.0) pairs, ap (λ (p : ℕ × List ℕ). p.1) pairs)

bytes_are : (a x b y : List ℕ) → some_bytes a x ≡ some_bytes b y → (a ≡ b) × (x ≡ y)
bytes_are a x b y e =
    let left : List ℕ × List ℕ = (a, x) in
    let right : List ℕ × List ℕ = (b, y) in
    let pairs : left ≡ right = cc in
    (ap (λ (p : List ℕ × List ℕ). p.0) pairs, ap (λ (p : List ℕ × List ℕ). p.1) pairs)

abbrev empty_list : List ℕ
empty_list = []

-- these bytes before what was read
abbrev pub with_front : List ℕ → Option (List ℕ × List ℕ) → Option (List ℕ × List ℕ)
with_front front read = option_map (λ found. (front ++ found.0, found.1)) read

with_front-with_byte : (front : List ℕ) (byte : ℕ) (read : Option (List ℕ × List ℕ))
    → with_front front (led_by byte read) ≡ with_front (front ++ byte ∷ []) read
with_front-with_byte front byte None = refl
with_front-with_byte front byte (Some found) = ap (λ (bytes : List ℕ). Some (bytes, found.1)) (sym (append_assoc front (byte ∷ []) found.0))

-- one byte more of a literal
pub literal-more : (limit : ℕ) (front new text : List ℕ) (byte : ℕ) (rest : List ℕ) (total : Option (List ℕ × List ℕ)) → length front < limit
    → new ≡ front ++ byte ∷ [] → Some (byte, rest) ≡ byte_at text
    → with_front front (literal_at (limit - length front) text) ≡ total → with_front new (literal_at (limit - length new) rest) ≡ total
unfolding literal_at
literal-more limit front new text byte rest total lt pushed next so_far =
    let longer : length new ≡ length front + 1 = ap length pushed ∙ length-append front (byte ∷ []) in
    let room : limit - length front ≡ suc (limit - length new) = omega arith in
    let one : with_front front (literal_at (limit - length front) text) ≡ with_front (front ++ byte ∷ []) (literal_at (limit - length new) rest) =
    rw (room, ← next) (with_front-with_byte front byte (literal_at (limit - length new) rest)) in
    ap (λ (bytes : List ℕ). with_front bytes (literal_at (limit - length new) rest)) pushed ∙ sym one ∙ so_far

-- a literal is at its end where there is no room, or where no byte comes
pub literal-full : (limit n : ℕ) (text : List ℕ) → limit ≤ n → literal_at (limit - n) text ≡ option_map (λ rest. ([], rest)) (behind_quote text)
unfolding literal_at
literal-full limit n text le =
    let room : limit - n ≡ 0 = omega arith in
    rw room refl

ended : (room : ℕ) (text : List ℕ) → None ≡ byte_at text → literal_at room text ≡ option_map (λ rest. ([], rest)) (behind_quote text)
unfolding literal_at
ended zero text none = refl
ended (suc room) text none = rw (← none) refl

pub literal-ended : (limit n : ℕ) (text : List ℕ) → None ≡ byte_at text → literal_at (limit - n) text ≡ option_map (λ rest. ([], rest)) (behind_quote text)
literal-ended limit n text none = ended (limit - n) text none

-- what was read in all, behind the closing quote or where there is none
pub literal-found : (front text rest : List ℕ) (read total : Option (List ℕ × List ℕ)) → read ≡ option_map (λ rest. ([], rest)) (behind_quote text)
    → Some rest ≡ behind_quote text
    → with_front front read ≡ total → Some (front, rest) ≡ total
literal-found front text rest read total is at_end so_far =
    let here : with_front front read ≡ Some (front, rest) = rw (is, ← at_end) (ap (λ (bytes : List ℕ). Some (bytes, rest)) (append-nil front)) in
    sym here ∙ so_far

pub literal-missing : (front text : List ℕ) (read total : Option (List ℕ × List ℕ)) → read ≡ option_map (λ rest. ([], rest)) (behind_quote text)
    → None ≡ behind_quote text
    → with_front front read ≡ total → None ≡ total
literal-missing front text read total is at_end so_far =
    let here : with_front front read ≡ None = rw (is, ← at_end) refl in
    sym here ∙ so_far

-- ---- what is read is spelled so

-- the text begins with what stands for the byte
pub record TakesByte (text : List ℕ) (byte : ℕ) (rest : List ℕ) : Type 0 where
  pub front : List ℕ
  pub spelled : SpellsByte front byte
  pub parts : text ≡ front ++ rest

-- the text begins with what stands for the bytes, and a quote
pub record TakesBytes (text bytes rest : List ℕ) : Type 0 where
  pub inner : List ℕ
  pub spelled : SpellsBytes inner bytes
  pub parts : text ≡ inner ++ 34 ∷ rest

plain-false : (first : ℕ) → eqb first 34 ≡ false → eqb first 92 ≡ false → is_plain first ≡ true
plain-false first quote slash = rw (quote, slash) refl

byte_at-two : (first letter : ℕ) (tail : List ℕ) (byte : ℕ) (rest : List ℕ) (quote slash : Bool) (escape : Option ℕ) → eqb first 34 ≡ quote
    → eqb first 92 ≡ slash → unescaped letter ≡ escape
    → some_byte byte rest ≡ cond quote None (cond slash (option_map (λ (b : ℕ). (b, tail)) escape) (Some (first, letter ∷ tail)))
    → TakesByte (first ∷ letter ∷ tail) byte rest
byte_at-two first letter tail byte rest true slash escape q s e next = absurd cc
byte_at-two first letter tail byte rest false true None q s e next = absurd cc
byte_at-two first letter tail byte rest false true (Some b) q s e next =
    let same = byte_is byte rest b tail next in
    record {
      front = first ∷ letter ∷ [];
      spelled = (eqb-true first 92 s, e ∙ ap (λ (x : ℕ). Some x) (sym same.0));
      parts =
          ap (λ (x : List ℕ). first ∷ letter ∷ x) (sym same.1);
    }
byte_at-two first letter tail byte rest false false escape q s e next =
    let same = byte_is byte rest first (letter ∷ tail) next in
    record { front = first ∷ []; spelled = (plain-false first q s, sym same.0); parts = ap (λ (x : List ℕ). first ∷ x) (sym same.1) }

byte_at-one : (first byte : ℕ) (rest : List ℕ) (quote slash : Bool) → eqb first 34 ≡ quote → eqb first 92 ≡ slash
    → some_byte byte rest ≡ cond quote None (cond slash None (Some (first, []))) → TakesByte (first ∷ []) byte rest
byte_at-one first byte rest true slash q s next = absurd cc
byte_at-one first byte rest false true q s next = absurd cc
byte_at-one first byte rest false false q s next =
    let same = byte_is byte rest first [] next in
    record { front = first ∷ []; spelled = (plain-false first q s, sym same.0); parts = ap (λ (x : List ℕ). first ∷ x) (sym same.1) }

byte_at-takes : (text : List ℕ) (byte : ℕ) (rest : List ℕ) → some_byte byte rest ≡ byte_at text → TakesByte text byte rest
byte_at-takes [] byte rest next = absurd cc
byte_at-takes (first ∷ []) byte rest next = byte_at-one first byte rest (eqb first 34) (eqb first 92) refl refl next
byte_at-takes (first ∷ letter ∷ tail) byte rest next = byte_at-two first letter tail byte rest (eqb first 34) (eqb first 92)
    (unescaped letter) refl refl refl next

closed-takes : (text rest : List ℕ) → behind_quote text ≡ Some rest → TakesBytes text [] rest
closed-takes [] rest found = absurd cc
closed-takes (first ∷ tail) rest found = go (eqb first 34) refl found
  where
    go : (quote : Bool) → eqb first 34 ≡ quote → cond quote (Some tail) None ≡ Some rest → TakesBytes (first ∷ tail) [] rest
    go true q e = let is : first ≡ 34 = eqb-true first 34 q in record { inner = []; spelled = refl; parts = cc }
    go false q e = absurd cc

closed-found : (text bytes rest : List ℕ) (left : Option (List ℕ)) → behind_quote text ≡ left
    → option_map (λ (r : List ℕ). (empty_list, r)) left ≡ some_bytes bytes rest → TakesBytes text bytes rest
closed-found text bytes rest None is found = absurd cc
closed-found text bytes rest (Some r) is found =
    let same = bytes_are [] r bytes rest found in
    subst (λ (b : List ℕ). TakesBytes text b rest) same.0 (closed-takes text rest (is ∙ ap (λ (x : List ℕ). Some x) same.1))

with_byte-takes : (text : List ℕ) (byte : ℕ) (after bytes rest : List ℕ) (read : Option (List ℕ × List ℕ)) → TakesByte text byte after
    → ((others end : List ℕ) → read ≡ Some (others, end) → TakesBytes after others end) → led_by byte read ≡ some_bytes bytes rest → TakesBytes text bytes rest
with_byte-takes text byte after bytes rest None first others found = absurd cc
with_byte-takes text byte after bytes rest (Some found) first others is =
    let tail = others found.0 found.1 refl in
    let same = bytes_are (byte ∷ found.0) found.1 bytes rest is in
    let parts : text ≡ (first.front ++ tail.inner) ++ 34 ∷ found.1 = first.parts ∙ ap (λ (t : List ℕ). first.front ++ t) tail.parts ∙ sym
    (append_assoc first.front tail.inner (34 ∷ found.1)) in
    let whole : TakesBytes text (byte ∷ found.0) found.1 = record {
      inner = first.front ++ tail.inner;
      spelled =
          (first.front, tail.inner, first.spelled, tail.spelled, refl);
      parts = parts;
    } in
    subst (λ (b : List ℕ). TakesBytes text b rest) same.0 (subst (λ (r : List ℕ). TakesBytes text (byte ∷ found.0) r) same.1 whole)

closed-len : (text bytes rest : List ℕ) (room : ℕ) (left : Option (List ℕ)) → option_map (λ (r : List ℕ). (empty_list, r)) left ≡ some_bytes bytes rest
    → length bytes ≤ room
closed-len text bytes rest room None found = absurd cc
closed-len text bytes rest room (Some r) found =
    let none : 0 ≡ length bytes = ap length (bytes_are [] r bytes rest found).0 in
    omega arith

with_byte-len : (room byte : ℕ) (bytes rest : List ℕ) (read : Option (List ℕ × List ℕ))
    → ((others end : List ℕ) → read ≡ Some (others, end) → length others ≤ room)
    → led_by byte read ≡ some_bytes bytes rest → length bytes ≤ suc room
with_byte-len room byte bytes rest None later found = absurd cc
with_byte-len room byte bytes rest (Some read) later found =
    let longer : suc (length read.0) ≡ length bytes = ap length (bytes_are (byte ∷ read.0) read.1 bytes rest found).0 in
    let short : length read.0 ≤ room = later read.0 read.1 refl in
    omega arith

literal_from-takes : (room : ℕ) (text bytes rest : List ℕ) (next : Option (ℕ × List ℕ)) → next ≡ byte_at text
    → ((after others end : List ℕ) → literal_at room after ≡ Some (others, end) → TakesBytes after others end)
    → option_map_or (λ (n : ℕ × List ℕ). led_by n.0 (literal_at room n.1)) next (option_map (λ (r : List ℕ). (empty_list, r)) (behind_quote text))
    ≡ some_bytes bytes rest → TakesBytes text bytes rest
literal_from-takes room text bytes rest None is later found = closed-found text bytes rest (behind_quote text) refl found
literal_from-takes room text bytes rest (Some n) is later found =
    with_byte-takes text n.0 n.1 bytes rest (literal_at room n.1) (byte_at-takes text n.0 n.1 is) (later n.1) found

pub literal_at-takes : (room : ℕ) (text bytes rest : List ℕ) → literal_at room text ≡ Some (bytes, rest) → TakesBytes text bytes rest
unfolding literal_at
literal_at-takes zero text bytes rest found = closed-found text bytes rest (behind_quote text) refl found
literal_at-takes (suc room) text bytes rest found =
    literal_from-takes room text bytes rest (byte_at text) refl (λ after others end read. literal_at-takes room after others end read) found

-- no more bytes than there is room for
literal_from-len : (room : ℕ) (text bytes rest : List ℕ) (next : Option (ℕ × List ℕ))
    → ((after others end : List ℕ) → literal_at room after ≡ Some (others, end) → length others ≤ room)
    → option_map_or (λ (n : ℕ × List ℕ). led_by n.0 (literal_at room n.1)) next (option_map (λ (r : List ℕ). (empty_list, r)) (behind_quote text))
    ≡ some_bytes bytes rest → length bytes ≤ suc room
literal_from-len room text bytes rest None later found = closed-len text bytes rest (suc room) (behind_quote text) found
literal_from-len room text bytes rest (Some n) later found = with_byte-len room n.0 bytes rest (literal_at room n.1) (later n.1) found

pub literal_at-len : (room : ℕ) (text bytes rest : List ℕ) → literal_at room text ≡ Some (bytes, rest) → length bytes ≤ room
unfolding literal_at
literal_at-len zero text bytes rest found = closed-len text bytes rest 0 (behind_quote text) found
literal_at-len (suc room) text bytes rest found = literal_from-len room text bytes rest (byte_at text)
    (λ after others end read. literal_at-len room after others end read) found

-- what is left is no longer than the text
pub literal_at-within : (room : ℕ) (text bytes rest : List ℕ) → literal_at room text ≡ Some (bytes, rest) → length rest ≤ length text
literal_at-within room text bytes rest found =
    let took = literal_at-takes room text bytes rest found in
    let whole : length text ≡ length took.inner + suc (length rest) = ap length took.parts ∙ length-append took.inner (34 ∷ rest) in
    omega arith

-- ---- what is spelled so is read

plain-quote : (byte : ℕ) → is_plain byte ≡ true → eqb byte 34 ≡ false
plain-quote byte plain = (or_parts (eqb byte 34) (eqb byte 92) (not-true (eqb byte 34 || eqb byte 92) plain)).0

plain-slash : (byte : ℕ) → is_plain byte ≡ true → eqb byte 92 ≡ false
plain-slash byte plain = (or_parts (eqb byte 34) (eqb byte 92) (not-true (eqb byte 34 || eqb byte 92) plain)).1

byte_at-plain : (byte : ℕ) (rest : List ℕ) → is_plain byte ≡ true → byte_at (byte ∷ rest) ≡ Some (byte, rest)
byte_at-plain byte [] plain = rw (plain-quote byte plain, plain-slash byte plain) refl
byte_at-plain byte (next ∷ rest) plain = rw (plain-quote byte plain, plain-slash byte plain) refl

byte_at-again : (front : List ℕ) (byte : ℕ) (rest : List ℕ) → SpellsByte front byte → byte_at (front ++ rest) ≡ Some (byte, rest)
byte_at-again [] byte rest spelled = absurd spelled
byte_at-again (first ∷ []) byte rest spelled = ap (λ (b : ℕ). byte_at (b ∷ rest)) spelled.1 ∙ byte_at-plain byte rest
    (subst (λ (b : ℕ). is_plain b ≡ true) spelled.1 spelled.0)
byte_at-again (first ∷ letter ∷ []) byte rest spelled = ap (λ (b : ℕ). byte_at (b ∷ letter ∷ rest)) spelled.0 ∙ rw spelled.1 refl
byte_at-again (first ∷ letter ∷ more ∷ others) byte rest spelled = absurd spelled

byte_at-quote : (rest : List ℕ) → byte_at (34 ∷ rest) ≡ None
byte_at-quote [] = refl
byte_at-quote (next ∷ rest) = refl

literal_at-quote : (room : ℕ) (rest : List ℕ) → literal_at room (34 ∷ rest) ≡ Some ([], rest)
unfolding literal_at
literal_at-quote zero rest = refl
literal_at-quote (suc room) rest = rw (byte_at-quote rest) refl

pub literal_at-again : (room : ℕ) (inner bytes rest : List ℕ) → SpellsBytes inner bytes → length bytes ≤ room
    → literal_at room (inner ++ 34 ∷ rest) ≡ Some (bytes, rest)
unfolding literal_at
literal_at-again room inner [] rest spelled le = ap (λ (i : List ℕ). literal_at room (i ++ 34 ∷ rest)) spelled ∙ literal_at-quote room rest
literal_at-again zero inner (byte ∷ bytes) rest spelled le = absurd (omega arith)
literal_at-again (suc room) inner (byte ∷ bytes) rest spelled le =
    let regrouped : inner ++ 34 ∷ rest ≡ spelled.0 ++ (spelled.1 ++ 34 ∷ rest) = ap (λ (i : List ℕ). i ++ 34 ∷ rest) spelled.4
    ∙ append_assoc spelled.0 spelled.1 (34 ∷ rest) in
    let later : literal_at room (spelled.1 ++ 34 ∷ rest) ≡ Some (bytes, rest) = literal_at-again room spelled.1 bytes rest spelled.3 (omega arith) in
    ap (literal_at (suc room)) regrouped ∙ rw (byte_at-again spelled.0 byte (spelled.1 ++ 34 ∷ rest) spelled.2, later) refl
