-- Which keys a text asks a graph for.
use Rattle.std.proofs.Common.{◌≡◌, ◌⊎◌, ◌↔◌, inl, inr, ℕ, List, [], Contains, Result, Ok, Err, sym, subst, arith}
use Rattle.forest.specs.declared.symbols.Token.{Token}
use Rattle.forest.specs.Distinct.{IsDistinct, AreAll}
use Rattle.edit_log.specs.History.{Grammar}
use Rattle.edit_log.specs.Tokens.{tokens, Tokenizes}
use Rattle.item_sets.specs.declared.item.Item.{Item}
use Rattle.isg_states.specs.declared.scan_key.ScanKey.{ScanKey}
use Rattle.isg_scan.specs.declared.scan_error.ScanError.{ScanError}
use Rattle.isg_scan.specs.declared.scan_error.ScanError.TheVariants.{NoToken, TooManyTokens, NoMemory}
use Rattle.isg_scan.specs.Reach.{ReachesScan}
use Rattle.isg_scan.specs.Answers.{UnlessScanNoMemory}
use Rattle.row_coding.specs.Rows.{Key, kernel, scan}
use Rattle.live_graph.specs.Meaning.{Asked, GraphMeaning}
use Rattle.rekers.specs.States.{IsStateReached}
use Rattle.rekers.specs.Answers.{kinds_of}
use Rattle.rekers.specs.Asked.{AsksStates, AsksSomeStates}
use Rattle.replies.specs.declared.reply.Outcome.{Outcome}
use Rattle.replies.specs.declared.reply.Outcome.TheVariants.{Parsed, Scan, TooLarge}
use Rattle.replies.specs.Replies.{IsScanRefusedFor}
use Rattle.sections.specs.Held.{ReachesKey, ScansKey, AsksFor}
use Rattle.sections.specs.Asked.{HasAsked, AsksAll, AsksText, AsksTokens}
use Rattle.replies.proofs.OneReply.{one_list, not_refused}
use Rattle.sections.proofs.UsedGraphs.{asked_keys, has_kernel, has_scan, asked_once}

pub unless_memory : {X : Type 0} (result : Result X ScanError) (error : ScanError) (P : Type 0) → result ≡ Err error → (error ≡ NoMemory → ⊥)
    → UnlessScanNoMemory result P → P
unless_memory (Ok found) error P same other is = is
unless_memory (Err (NoToken offset)) error P same other is = is
unless_memory (Err (TooManyTokens offset)) error P same other is = is
unless_memory (Err NoMemory) error P same other is = let none : error ≡ NoMemory = cc same in absurd (other none)

-- ---- a scan, and a parse behind it

module _ {Base : Type 0} (grammar : Grammar) (text : List ℕ) (old between : GraphMeaning Base) (kernels : between.kernels ≡ old.kernels)
    (scans : (key : ScanKey) → Contains between.scans.keys key ↔ (Contains old.scans.keys key ⊎ ReachesScan grammar text key)) where
  kernels_back : (items : List Item) → Contains between.kernels.keys items → Contains old.kernels.keys items
  kernels_back items has = subst (λ (k : Asked (List Item)). Contains k.keys items) kernels has

  kernels_stay : (items : List Item) → Contains old.kernels.keys items → Contains between.kernels.keys items
  kernels_stay items has = subst (λ (k : Asked (List Item)). Contains k.keys items) (sym kernels) has

  pub scans_keys : (key : Key) → HasAsked between key ↔ (HasAsked old key ⊎ ScansKey grammar text key)
  scans_keys (scan key) = scans key
  scans_keys (kernel items) = (λ has. inl (kernels_back items has), λ has. elim has [ inl known ↦ kernels_stay items known | inr never ↦ absurd never ])

  pub scan_refused : (error : ScanError) → IsScanRefusedFor grammar text error → (key : Key)
      → HasAsked between key ↔ (HasAsked old key ⊎ ReachesKey grammar text key)
  scan_refused error refused (scan key) = scans key
  scan_refused error refused (kernel items) = (
    λ has. inl (kernels_back items has),
    λ has. elim has [
      | inl known ↦ kernels_stay items known
      | inr (found, is, reached) ↦ absurd (not_refused grammar text found error is refused)
    ],
  )

  module _ (new : GraphMeaning Base) (found : List Token) (is : Tokenizes grammar text (tokens found)) (rules : between.grammar ≡ grammar)
      (stand : new.scans ≡ between.scans) where
    scans_after : (key : ScanKey) → Contains new.scans.keys key ↔ (Contains old.scans.keys key ⊎ ReachesScan grammar text key)
    scans_after key = subst (λ (s : Asked ScanKey). Contains s.keys key ↔ (Contains old.scans.keys key ⊎ ReachesScan grammar text key)) (sym stand) (scans key)

    reached_by : (items : List Item) → IsStateReached between.grammar.rules (kinds_of found) items → ReachesKey grammar text (kernel items)
    reached_by items reached = (found, is, subst (λ (g : Grammar). IsStateReached g.rules (kinds_of found) items) rules reached)

    by_tokens : (items : List Item) → ReachesKey grammar text (kernel items) → IsStateReached between.grammar.rules (kinds_of found) items
    by_tokens items (other, tokenizes, reached) =
        subst (λ (g : Grammar). IsStateReached g.rules (kinds_of found) items) (sym rules)
        (subst (λ ts. IsStateReached grammar.rules (kinds_of ts) items) (one_list grammar text other found tokenizes is) reached)

    all_asked : AsksStates (kinds_of found) between new → (key : Key) → HasAsked new key ↔ (HasAsked old key ⊎ ReachesKey grammar text key)
    all_asked asks (scan key) = scans_after key
    all_asked asks (kernel items) = (
      λ has. elim ((asks items).0 has) [ inl known ↦ inl (kernels_back items known) | inr reached ↦ inr (reached_by items reached) ],
      λ has. elim has [ inl known ↦ (asks items).1 (inl (kernels_stay items known)) | inr reached ↦ (asks items).1 (inr (by_tokens items reached)) ],
    )

    some_within : AsksSomeStates (kinds_of found) between new → (key : Key) → HasAsked new key → HasAsked old key ⊎ ReachesKey grammar text key
    some_within asks (scan key) has = (scans_after key).0 has
    some_within asks (kernel items) has = elim (asks.within items has) [
      | inl known ↦ inl (kernels_back items known)
      | inr reached ↦ inr (reached_by items reached)
    ]

    some_scanned : (key : Key) → ScansKey grammar text key → HasAsked new key
    some_scanned (scan key) reached = (scans_after key).1 (inr reached)
    some_scanned (kernel items) never = absurd never

    pub text_asks : (outcome : Outcome) → AsksTokens (kinds_of found) outcome between new → AsksText grammar text outcome old new
    text_asks (Parsed parsed) asks = all_asked asks
    text_asks (Scan error) never = absurd never
    text_asks TooLarge asks = record { within = some_within asks; scanned = some_scanned }

-- ---- a graph that was not asked for anything before

module _ {Base : Type 0} (old new : GraphMeaning Base) (no_kernels : old.kernels.keys ≡ []) (no_scans : old.scans.keys ≡ [])
    (kernels_once : IsDistinct new.kernels.keys) (scans_once : IsDistinct new.scans.keys) where
  abbrev asked : List Key
  asked = asked_keys new.kernels.keys new.scans.keys

  nothing_before : (key : Key) → HasAsked old key → ⊥
  nothing_before (kernel items) has = let there = subst (λ keys. Contains keys items) no_kernels has in absurd (omega (arith, there.1))
  nothing_before (scan key) has = let there = subst (λ keys. Contains keys key) no_scans has in absurd (omega (arith, there.1))

  has_key : (key : Key) → Contains asked key ↔ HasAsked new key
  has_key (kernel items) = has_kernel new.kernels.keys new.scans.keys items
  has_key (scan key) = has_scan new.kernels.keys new.scans.keys key

  pub exactly : (Wanted : Key → Type 0) → AsksAll Wanted old new → AreAll Wanted asked
  exactly Wanted asks = record {
    distinct = asked_once new.kernels.keys new.scans.keys kernels_once scans_once;
    within = λ key there. elim ((asks key).0 ((has_key key).0 there)) [ inl known ↦ absurd (nothing_before key known) | inr wanted ↦ wanted ];
    all = λ key wanted. (has_key key).1 ((asks key).1 (inr wanted));
  }

  pub asks_for : (grammar : Grammar) (text : List ℕ) (outcome : Outcome) → AsksText grammar text outcome old new → AsksFor grammar text outcome asked
  asks_for grammar text (Parsed parsed) asks = exactly (ReachesKey grammar text) asks
  asks_for grammar text (Scan error) asks = exactly (ReachesKey grammar text) asks
  asks_for grammar text TooLarge asks = record {
    distinct = asked_once new.kernels.keys new.scans.keys kernels_once scans_once;
    within = λ key there. elim (asks.within key ((has_key key).0 there)) [ inl known ↦ absurd (nothing_before key known) | inr reached ↦ reached ];
    scanned = λ key reached. (has_key key).1 (asks.scanned key reached);
  }
