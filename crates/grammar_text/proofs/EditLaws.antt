-- Reading an edit: what is read is spelled so.
use Rattle.std.proofs.Common.{◌≡◌, ℕ, Bool, true, false, cond, ltb, List, [], ◌∷◌, ◌++◌, length, Result, Ok, Err, refl, sym, ap, subst, ◌∙◌, ◌⊎◌, inl, inr}
use Rattle.std.proofs.Common.{arith}
use Rattle.std.specs.Prelude.{codes}
use Rattle.std.specs.Str.{bytes_eq}
use Rattle.std.proofs.lemmas.Bool.{ltb-false}
use Rattle.std.proofs.lemmas.Slice.Eq.{bytes_eq-Decides}
use Rattle.grammar_text.specs.declared.limits.TheConstants.{EDIT_LIMIT}
use Rattle.grammar_text.specs.declared.bad_edit.BadEdit.{BadEdit}
use Rattle.grammar_text.specs.declared.bad_edit.BadEdit.TheVariants.{Shape, TooLong}
use Rattle.grammar_text.specs.declared.edit.RuleText.{RuleText}
use Rattle.grammar_text.specs.declared.edit.DefText.{DefText}
use Rattle.grammar_text.specs.declared.edit.Edit.{Edit}
use Rattle.grammar_text.specs.declared.edit.Edit.TheVariants.{AddRule, DropRule, AddToken, DropToken, AddSkip, DropSkip}
use Rattle.grammar_text.specs.Names.{IsName}
use Rattle.grammar_text.specs.Pieces.{Place, start_of, offset_of, trimmed, piece_of, behind_piece, blank_led, is_empty}
use Rattle.grammar_text.specs.Spelling.{AreBlanks, keyword_of, edited_name, edit_words, IsExpressionText, SpellsTail, BeginsWith, Spells}
use Rattle.grammar_text.specs.Canonical.{canonical}
use Rattle.grammar_text.specs.Limits.{Room, the_limits, PartsFit, IsWithinLimits}
use Rattle.grammar_text.specs.Reading.{◌>>=◌, at, word_at, name_at, symbols_at, rule_at, expression_at, definition_at, last_name_at, dropped_at, edit_at}
use Rattle.grammar_text.specs.Reading.{edit_of}
use Rattle.grammar_text.proofs.Gaps.{leads, gapped, blanks_from_empty, trimmed-trimmed, piece_splits, behind_led}
use Rattle.grammar_text.proofs.Words.{bind_ok, guard_ok, unless_ok, done, ok_is, Takes, takes_word, word_takes, name_takes}
use Rattle.grammar_text.proofs.SymbolLaws.{some_bytes, ReadsSymbols, symbols_take}

-- ---- what stands behind the keyword

-- the text is what is behind the keyword of this edit
pub record ReadsBehind (room : Room) (text : List ℕ) (edit : Edit) : Type 0 where
  pub rest : List ℕ
  pub words : BeginsWith text (edit_words edit) rest
  pub named : IsName (edited_name edit)
  pub tail : SpellsTail rest edit
  pub parts : PartsFit room edit

-- the text is a name, `::=` and symbols
pub record ReadsRule (room : Room) (text : List ℕ) (rule : RuleText) : Type 0 where
  pub rest : List ℕ
  pub words : BeginsWith text (rule.left ∷ codes "::=" ∷ []) rest
  pub named : IsName rule.left
  pub right : ReadsSymbols room room.right rest rule.right

pub rule_takes : (room : Room) (place : Place) (rule : RuleText) → blank_led place.left ≡ true → rule_at room place ≡ Ok rule → ReadsRule room place.left rule
unfolding rule_at
rule_takes room place rule led e =
    let a = bind_ok (name_at place) (λ left. word_at (codes "::=") left.1 >>= λ behind. symbols_at room room.right behind >>= λ right. Ok (record {
      left =
          left.0;
      right = right;
    })) rule e in
    let b = bind_ok (word_at (codes "::=") a.0.1) (λ behind. symbols_at room room.right behind >>= λ right. Ok (record {
      left = a.0.0;
      right =
          right;
    })) rule a.2 in
    let c = bind_ok (symbols_at room room.right b.0) (λ right. Ok (record { left = a.0.0; right = right })) rule b.2 in
    let name = name_takes place a.0.0 a.0.1 led a.1 in
    let arrow = word_takes (codes "::=") a.0.1 b.0 (omega arith) name.0.led b.1 in
    let made : RuleText = record { left = a.0.0; right = c.0 } in
    let whole : ReadsRule room place.left made = record {
      rest = b.0.left;
      words = (name.0.gap, a.0.1.left, name.0.is_gap, (arrow.gap, b.0.left, arrow.is_gap, refl, arrow.parts), name.0.parts);
      named = name.1;
      right = symbols_take room room.right b.0 c.0 arrow.led c.1;
    } in
    subst (λ (r : RuleText). ReadsRule room place.left r) (ok_is made rule c.2) whole

expression_takes : (place : Place) (expression : List ℕ) → blank_led place.left ≡ true → expression_at place ≡ Ok expression
    → IsExpressionText place.left expression
unfolding expression_at
expression_takes place expression led e =
    let next = trimmed place.left in
    let g = unless_ok (is_empty next) _ (done next) expression e in
    let before = gapped place.left led g.0 in
    let whole : IsExpressionText place.left next = (before.gap, before.is_gap, some_bytes next g.0, trimmed-trimmed place.left, before.parts) in
    subst (λ (x : List ℕ). IsExpressionText place.left x) (ok_is next expression g.1) whole

-- the text is a name, `=` and an expression
pub record ReadsDefinition (text : List ℕ) (definition : DefText) : Type 0 where
  pub rest : List ℕ
  pub words : BeginsWith text (definition.name ∷ codes "=" ∷ []) rest
  pub named : IsName definition.name
  pub tail : IsExpressionText rest definition.expression

definition_takes : (place : Place) (definition : DefText) → blank_led place.left ≡ true → definition_at place ≡ Ok definition
    → ReadsDefinition place.left definition
unfolding definition_at
definition_takes place definition led e =
    let a = bind_ok (name_at place) (λ name. word_at (codes "=") name.1 >>= λ behind. expression_at behind >>= λ expression. Ok (record {
      name = name.0;
      expression = expression;
    })) definition e in
    let b = bind_ok (word_at (codes "=") a.0.1) (λ behind. expression_at behind >>= λ expression. Ok (record {
      name = a.0.0;
      expression =
          expression;
    })) definition a.2 in
    let c = bind_ok (expression_at b.0) (λ expression. Ok (record { name = a.0.0; expression = expression })) definition b.2 in
    let name = name_takes place a.0.0 a.0.1 led a.1 in
    let equals = word_takes (codes "=") a.0.1 b.0 (omega arith) name.0.led b.1 in
    let made : DefText = record { name = a.0.0; expression = c.0 } in
    let whole : ReadsDefinition place.left made = record {
      rest = b.0.left;
      words = (name.0.gap, a.0.1.left, name.0.is_gap, (equals.gap, b.0.left, equals.is_gap, refl, equals.parts), name.0.parts);
      named = name.1;
      tail = expression_takes b.0 c.0 equals.led c.1;
    } in
    subst (λ (d : DefText). ReadsDefinition place.left d) (ok_is made definition c.2) whole

-- the text is a name, and blanks
pub record ReadsName (text name : List ℕ) : Type 0 where
  pub rest : List ℕ
  pub words : BeginsWith text (name ∷ []) rest
  pub named : IsName name
  pub tail : AreBlanks rest

abbrev not_last : Place → BadEdit
not_last place = Shape (offset_of (at place (trimmed place.left)))

last_name_takes : (place : Place) (name : List ℕ) → blank_led place.left ≡ true → last_name_at place ≡ Ok name → ReadsName place.left name
unfolding last_name_at
last_name_takes place name led e =
    let a = bind_ok (name_at place) (λ x. cond (is_empty (trimmed x.1.left)) (Ok x.0) (Err (not_last x.1))) name e in
    let g = guard_ok (is_empty (trimmed a.0.1.left)) _ a.0.0 name a.2 in
    let read = name_takes place a.0.0 a.0.1 led a.1 in
    let whole : ReadsName place.left a.0.0 = record {
      rest = a.0.1.left;
      words = (read.0.gap, a.0.1.left, read.0.is_gap, refl, read.0.parts);
      named = read.1;
      tail = blanks_from_empty a.0.1.left g.0;
    } in
    subst (λ (n : List ℕ). ReadsName place.left n) g.1 whole

-- ---- by the first piece

-- the edit has this keyword, and the text is what stands behind it
pub record ReadsEdit (room : Room) (word text : List ℕ) (edit : Edit) : Type 0 where
  pub keyword : keyword_of edit ≡ word
  pub behind : ReadsBehind room text edit

guard_word : {A : Type 0} (b : Bool) (d : BadEdit) (r : Result A BadEdit) (y : A) → cond b r (Err d) ≡ Ok y → (b ≡ true) × (r ≡ Ok y)
guard_word true d r y e = (refl, e)
guard_word false d r y e = absurd cc

-- which way a test went
chosen : {A : Type 0} (b : Bool) (x y : Result A BadEdit) (z : A) → cond b x y ≡ Ok z → ((b ≡ true) × (x ≡ Ok z)) ⊎ ((b ≡ false) × (y ≡ Ok z))
chosen true x y z e = inl (refl, e)
chosen false x y z e = inr (refl, e)

abbrev add_rule : RuleText → Edit
add_rule rule = AddRule rule

abbrev drop_rule : RuleText → Edit
drop_rule rule = DropRule rule

abbrev add_token : DefText → Edit
add_token definition = AddToken definition

abbrev add_skip : DefText → Edit
add_skip definition = AddSkip definition

abbrev drop_token : List ℕ → Edit
drop_token name = DropToken name

abbrev drop_skip : List ℕ → Edit
drop_skip name = DropSkip name

add_rule_takes : (room : Room) (place : Place) (edit : Edit) → blank_led place.left ≡ true → (rule_at room place >>= λ rule. Ok (add_rule rule)) ≡ Ok edit
    → ReadsEdit room (codes "rule") place.left edit
add_rule_takes room place edit led e =
    let a = bind_ok (rule_at room place) (λ rule. Ok (add_rule rule)) edit e in
    let rule = rule_takes room place a.0 led a.1 in
    let whole : ReadsEdit room (codes "rule") place.left (AddRule a.0) = record {
      keyword = refl;
      behind = record { rest = rule.rest; words = rule.words; named = rule.named; tail = rule.right.spelled; parts = (rule.right.short, rule.right.fits) };
    } in
    subst (λ (x : Edit). ReadsEdit room (codes "rule") place.left x) (ok_is (AddRule a.0) edit a.2) whole

add_token_takes : (room : Room) (place : Place) (edit : Edit) → blank_led place.left ≡ true → (definition_at place >>= λ definition. Ok (add_token definition))
    ≡ Ok edit → ReadsEdit room (codes "token") place.left edit
add_token_takes room place edit led e =
    let a = bind_ok (definition_at place) (λ definition. Ok (add_token definition)) edit e in
    let read = definition_takes place a.0 led a.1 in
    let whole : ReadsEdit room (codes "token") place.left (AddToken a.0) = record {
      keyword = refl;
      behind = record { rest = read.rest; words = read.words; named = read.named; tail = read.tail; parts = tt };
    } in
    subst (λ (x : Edit). ReadsEdit room (codes "token") place.left x) (ok_is (AddToken a.0) edit a.2) whole

add_skip_takes : (room : Room) (place : Place) (edit : Edit) → blank_led place.left ≡ true → (definition_at place >>= λ definition. Ok (add_skip definition))
    ≡ Ok edit → ReadsEdit room (codes "skip") place.left edit
add_skip_takes room place edit led e =
    let a = bind_ok (definition_at place) (λ definition. Ok (add_skip definition)) edit e in
    let read = definition_takes place a.0 led a.1 in
    let whole : ReadsEdit room (codes "skip") place.left (AddSkip a.0) = record {
      keyword = refl;
      behind = record { rest = read.rest; words = read.words; named = read.named; tail = read.tail; parts = tt };
    } in
    subst (λ (x : Edit). ReadsEdit room (codes "skip") place.left x) (ok_is (AddSkip a.0) edit a.2) whole

-- ---- behind `drop`

drop_rule_takes : (room : Room) (text : List ℕ) (place : Place) (edit : Edit) → Takes text (codes "rule") place.left
    → (rule_at room place >>= λ rule. Ok (drop_rule rule)) ≡ Ok edit → ReadsEdit room (codes "drop") text edit
drop_rule_takes room text place edit word e =
    let a = bind_ok (rule_at room place) (λ rule. Ok (drop_rule rule)) edit e in
    let rule = rule_takes room place a.0 word.led a.1 in
    let whole : ReadsEdit room (codes "drop") text (DropRule a.0) = record {
      keyword = refl;
      behind = record {
        rest = rule.rest;
        words = (word.gap, place.left, word.is_gap, rule.words, word.parts);
        named = rule.named;
        tail = rule.right.spelled;
        parts = (rule.right.short, rule.right.fits);
      };
    } in
    subst (λ (x : Edit). ReadsEdit room (codes "drop") text x) (ok_is (DropRule a.0) edit a.2) whole

drop_token_takes : (room : Room) (text : List ℕ) (place : Place) (edit : Edit) → Takes text (codes "token") place.left
    → (last_name_at place >>= λ name. Ok (drop_token name)) ≡ Ok edit → ReadsEdit room (codes "drop") text edit
drop_token_takes room text place edit word e =
    let a = bind_ok (last_name_at place) (λ name. Ok (drop_token name)) edit e in
    let name = last_name_takes place a.0 word.led a.1 in
    let whole : ReadsEdit room (codes "drop") text (DropToken a.0) = record {
      keyword = refl;
      behind = record {
        rest = name.rest;
        words = (word.gap, place.left, word.is_gap, name.words, word.parts);
        named = name.named;
        tail = name.tail;
        parts =
            tt;
      };
    } in
    subst (λ (x : Edit). ReadsEdit room (codes "drop") text x) (ok_is (DropToken a.0) edit a.2) whole

drop_skip_takes : (room : Room) (text : List ℕ) (place : Place) (edit : Edit) → Takes text (codes "skip") place.left
    → (last_name_at place >>= λ name. Ok (drop_skip name)) ≡ Ok edit → ReadsEdit room (codes "drop") text edit
drop_skip_takes room text place edit word e =
    let a = bind_ok (last_name_at place) (λ name. Ok (drop_skip name)) edit e in
    let name = last_name_takes place a.0 word.led a.1 in
    let whole : ReadsEdit room (codes "drop") text (DropSkip a.0) = record {
      keyword = refl;
      behind = record {
        rest = name.rest;
        words = (word.gap, place.left, word.is_gap, name.words, word.parts);
        named = name.named;
        tail = name.tail;
        parts =
            tt;
      };
    } in
    subst (λ (x : Edit). ReadsEdit room (codes "drop") text x) (ok_is (DropSkip a.0) edit a.2) whole

dropped_takes : (room : Room) (place : Place) (edit : Edit) → blank_led place.left ≡ true → dropped_at room place ≡ Ok edit
    → ReadsEdit room (codes "drop") place.left edit
unfolding dropped_at
dropped_takes room place edit led e =
    let next = trimmed place.left in
    let behind = at place (behind_piece next) in
    elim (chosen (bytes_eq (piece_of next) (codes "rule")) _ _ edit e) [
      | inl rule ↦ drop_rule_takes room place.left behind edit (takes_word place.left (codes "rule") (omega arith) led rule.0) rule.1
      | inr r ↦ elim (chosen (bytes_eq (piece_of next) (codes "token")) _ _ edit r.1) [
        | inl token ↦ drop_token_takes room place.left behind edit (takes_word place.left (codes "token") (omega arith) led token.0) token.1
        | inr t ↦
            let skip = guard_word (bytes_eq (piece_of next) (codes "skip")) _ _ edit t.1 in
            drop_skip_takes room place.left behind edit (takes_word place.left (codes "skip") (omega arith) led skip.0) skip.1
      ]
    ]

-- ---- the line

keyword_pieces : (text word : List ℕ) → bytes_eq (piece_of text) word ≡ true → text ≡ word ++ behind_piece text
keyword_pieces text word is = sym (piece_splits text) ∙ ap (λ (k : List ℕ). k ++ behind_piece text) ((bytes_eq-Decides (piece_of text) word).0 is)

spelled_line : (room : Room) (line keyword : List ℕ) (edit : Edit) → trimmed line ≡ keyword ++ behind_piece (trimmed line)
    → ReadsEdit room keyword (behind_piece (trimmed line)) edit → Spells line edit × PartsFit room edit
spelled_line room line keyword edit pieces read =
    let before = leads line in
    let begins : line ≡ before.gap ++ (keyword_of edit ++ behind_piece (trimmed line)) =
    before.parts ∙ ap (λ (t : List ℕ). before.gap ++ t) (pieces ∙ ap (λ (k : List ℕ). k ++ behind_piece (trimmed line)) (sym read.keyword)) in (
      record {
        blanks = before.gap;
        behind = behind_piece (trimmed line);
        rest = read.behind.rest;
        begins = begins;
        blank = before.blank;
        words =
            read.behind.words;
        named = read.behind.named;
        tail = read.behind.tail;
      },
      read.behind.parts,
    )

pub edit_takes : (room : Room) (place : Place) (edit : Edit) → edit_at room place ≡ Ok edit → Spells place.left edit × PartsFit room edit
unfolding edit_at
edit_takes room place edit e =
    let next = trimmed place.left in
    let behind = at place (behind_piece next) in
    let led : blank_led (behind_piece next) ≡ true = behind_led next in
    elim (chosen (bytes_eq (piece_of next) (codes "rule")) _ _ edit e) [
      | inl rule ↦ spelled_line room place.left (codes "rule") edit (keyword_pieces next (codes "rule") rule.0) (add_rule_takes room behind edit led rule.1)
      | inr r ↦ elim (chosen (bytes_eq (piece_of next) (codes "token")) _ _ edit r.1) [
        | inl token ↦ spelled_line room place.left (codes "token") edit (keyword_pieces next (codes "token") token.0)
            (add_token_takes room behind edit led token.1)
        | inr t ↦ elim (chosen (bytes_eq (piece_of next) (codes "skip")) _ _ edit t.1) [
          | inl skip ↦ spelled_line room place.left (codes "skip") edit (keyword_pieces next (codes "skip") skip.0) (add_skip_takes room behind edit led skip.1)
          | inr s ↦
              let word = guard_word (bytes_eq (piece_of next) (codes "drop")) _ _ edit s.1 in
              spelled_line room place.left (codes "drop") edit (keyword_pieces next (codes "drop") word.0) (dropped_takes room behind edit led word.1)
        ]
      ]
    ]

pub edit_of_takes : (line : List ℕ) (edit : Edit) → edit_of line ≡ Ok edit → Spells line edit × IsWithinLimits edit
unfolding edit_of
edit_of_takes line edit e =
    let a = bind_ok (edit_at the_limits (start_of line)) (λ x. cond (ltb EDIT_LIMIT (length (canonical x))) (Err (TooLong 0)) (Ok x)) edit e in
    let g = unless_ok (ltb EDIT_LIMIT (length (canonical a.0))) (TooLong 0) (done a.0) edit a.2 in
    let read = edit_takes the_limits (start_of line) a.0 a.1 in
    let within : IsWithinLimits a.0 = record { parts = read.1; text = ltb-false _ _ g.0 } in
    subst (λ (x : Edit). Spells line x × IsWithinLimits x) (ok_is a.0 edit g.1) (read.0, within)
