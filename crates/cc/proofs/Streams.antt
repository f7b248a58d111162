-- A stream of preprocessing tokens that a lexer reads to its end.
use Rattle.std.proofs.Common.{◌≡◌, ℕ, suc, length, List, [], ◌∷◌, ◌++◌, Option, Some, None, Bool, true, false, inl, inr, refl, sym, ap, ◌∙◌, subst, append-nil, arith}
use Rattle.std.specs.Prelude.{Result, Ok, Err, ◌⊎◌, is_some, slice_get}
use Rattle.std.proofs.lemmas.List.{append_assoc}
use Rattle.srcset.specs.Files.{Files}
use Rattle.srcset.specs.declared.fault.Fault.{Fault}
use Rattle.srcset.specs.Fault.{IsMemoryFault}
use Rattle.srcset.specs.declared.refusal.Refusal.{Refusal}
use Rattle.srcset.specs.declared.refusal.Refusal.TheVariants.{Memory, At, Told}
use Rattle.srcset.specs.NameTable.{Texts, KeepsNumbers, NumbersOnce}
use Rattle.srcset.specs.Refusal.{IsFaultOfRefusal}
use Rattle.phases.specs.Token.{Token as PpToken}
use Rattle.lexer.specs.declared.token.Token.{Token}
use Rattle.lexer.specs.declared.reading.Lexer.{Lexer}
use Rattle.lexer.specs.CTokens.{ctokens}
use Rattle.lexer.specs.Numbering.{AreTokensOf, IsTokenFault}
use Rattle.lexer.specs.Reading.{HasRead}
use Rattle.pp.specs.declared.stream.Pp.{Pp}
use Rattle.pp.specs.Phase4.{Phase4, phase4}
use Rattle.pp.specs.Preprocessed.{IsRefused, IsPreprocessFault}
use Rattle.pp.specs.Stream.{IsRest, IsFirst, IsNext, IsAnswer, fault_meant}
use Rattle.pp.proofs.StreamLaws.{rest_grows}
use Rattle.cc.specs.Compiled.{Numbers, HasList, HasTokens}
use Rattle.cc.specs.Refused.{FailsPreprocessing, FailsTokens}
use Rattle.cc.specs.declared.stopping.Stop.{Stop}
use Rattle.cc.specs.declared.stopping.Stop.TheVariants as Stop
use Rattle.cc.specs.inside.Stops.{IsTold as IsStopTold}
use Rattle.cc.specs.inside.Streams.{IsWhole, ReadsAll, EndsBy, Follows, ReadsSome}

pub keeps_all : (texts : Texts) → KeepsNumbers texts texts
keeps_all texts n text e = e

pub keeps_both : (a b c : Texts) → KeepsNumbers a b → KeepsNumbers b c → KeepsNumbers a c
keeps_both a b c f g n text e = g n text (f n text e)

pub nothing_read : (names : Texts) (stream : Pp) (lexer : Lexer) → HasRead names [] lexer → ReadsSome names names stream stream lexer
nothing_read names stream lexer h = record {
  front = [];
  read = h;
  follows = λ texts whole keeps r. (whole, r, refl, inl refl);
}

-- ---- one token more

-- the same is left by a table that has not grown, or in which no text has two numbers
rest_still : (after later texts : Texts) (stream : Pp) (rest : Phase4) → KeepsNumbers after later → ((later ≡ after) ⊎ NumbersOnce later) → IsRest after texts stream rest → IsRest later texts stream rest
rest_still after later texts stream rest keeps (inl same) r = subst (λ t. IsRest t texts stream rest) (sym same) r
rest_still after later texts stream rest keeps (inr once) r = rest_grows after later texts stream rest keeps once r

abbrev Comes : List PpToken → Phase4 → Phase4 → Type 0
Comes front rest whole = (front ++ rest.tokens ≡ whole.tokens) ⊎ ((rest.tokens ≡ []) × (is_some rest.fault ≡ true))

moved_on : (front : List PpToken) (x : PpToken) (more : List PpToken) (rest whole : Phase4) → rest.tokens ≡ x ∷ more → Comes front rest whole → Comes (front ++ x ∷ []) (record { tokens = more; fault = rest.fault }) whole
moved_on front x more rest whole e (inl h) = inl (append_assoc front (x ∷ []) more ∙ ap (λ k. front ++ k) (sym e) ∙ h)
moved_on front x more rest whole e (inr h) = absurd (let z : ⊥ = cc (e, h.0) in z)

one_read : (after later texts : Texts) (stream : Pp) (front : List PpToken) (x : PpToken) (rest whole : Phase4) → KeepsNumbers after later → ((later ≡ after) ⊎ NumbersOnce later) → rest.fault ≡ whole.fault → Comes front rest whole → IsFirst x after texts stream rest →
    Follows later texts stream (front ++ x ∷ []) whole
one_read after later texts stream front x rest whole keeps table same comes (inl h) =
    (record { tokens = h.0; fault = rest.fault }, rest_still after later texts stream (record { tokens = h.0; fault = rest.fault }) keeps table h.2, same, moved_on front x h.0 rest whole h.1 comes)
one_read after later texts stream front x rest whole keeps table same comes (inr h) =
    (rest, rest_still after later texts stream rest keeps table h.2, same, inr (h.0, h.1))

pub reads_on : (old before after later : Texts) (entry stream next : Pp) (lexer lexer' : Lexer) (x : PpToken) → ReadsSome old before entry stream lexer → IsAnswer (Ok (Some x)) before after stream next → KeepsNumbers before after → KeepsNumbers after later → ((later ≡ after) ⊎ NumbersOnce later) →
    ((front : List PpToken) → HasRead after front lexer → HasRead later (front ++ x ∷ []) lexer') → ((front : List PpToken) → HasRead before front lexer → HasRead after front lexer) → ReadsSome old later entry next lexer'
reads_on old before after later entry stream next lexer lexer' x s a keeps more table takes still = record {
  front = s.front ++ x ∷ [];
  read = takes s.front (still s.front s.read);
  follows = λ texts whole k r.
      let f : Follows before texts stream s.front whole = s.follows texts whole (keeps_both before later texts (keeps_both before after later keeps more) k) r in
      let n : IsFirst x after texts next f.0 = a.next texts f.0 (keeps_both after later texts more k) f.1 in
      one_read after later texts next s.front x f.0 whole more table f.2 f.3 n;
}

-- ---- the end

all_came : (front : List PpToken) (rest whole : Phase4) → rest ≡ record { tokens = []; fault = None } → rest.fault ≡ whole.fault → Comes front rest whole → whole ≡ record { tokens = front; fault = None }
all_came front rest whole e same (inl h) =
    let tokens : whole.tokens ≡ front = sym h ∙ ap (λ (k : Phase4). front ++ k.tokens) e ∙ append-nil front in
    let fault : whole.fault ≡ None = sym same ∙ ap (λ (k : Phase4). k.fault) e in
    ap (λ k. record { tokens = k; fault = whole.fault }) tokens ∙ ap (λ k. record { tokens = front; fault = k }) fault
all_came front rest whole e same (inr h) = absurd (let f : rest.fault ≡ None = ap (λ (k : Phase4). k.fault) e in let z : ⊥ = cc (h.1, f) in z)

pub reads_all : (old before after : Texts) (entry stream next : Pp) (lexer : Lexer) → ReadsSome old before entry stream lexer → IsAnswer (Ok None) before after stream next → KeepsNumbers before after →
    ((front : List PpToken) → HasRead before front lexer → HasRead after front lexer) → ReadsAll old after entry lexer
reads_all old before after entry stream next lexer s a keeps still = record {
  front = s.front;
  read = still s.front s.read;
  whole = λ texts whole k r.
      let f : Follows before texts stream s.front whole = s.follows texts whole (keeps_both before after texts keeps k) r in
      let n : IsNext (Ok None) after texts next f.0 = a.next texts f.0 k f.1 in
      all_came s.front f.0 whole n.0 f.2 f.3;
}

ends_by : (old before after : Texts) (entry stream next : Pp) (lexer : Lexer) (refusal : Refusal) → ReadsSome old before entry stream lexer → KeepsNumbers before after →
    ((texts : Texts) (rest : Phase4) → KeepsNumbers after texts → IsRest before texts stream rest → IsNext (Err refusal) after texts next rest) → EndsBy refusal old after entry
ends_by old before after entry stream next lexer Memory s keeps answer = tt
ends_by old before after entry stream next lexer (At c at) s keeps answer = λ texts whole k r.
    let f : Follows before texts stream s.front whole = s.follows texts whole (keeps_both before after texts keeps k) r in
    sym f.2 ∙ ap (λ (p : Phase4). p.fault) (answer texts f.0 k f.1).0
ends_by old before after entry stream next lexer (Told c at n) s keeps answer = λ texts whole k r.
    let f : Follows before texts stream s.front whole = s.follows texts whole (keeps_both before after texts keeps k) r in
    sym f.2 ∙ ap (λ (p : Phase4). p.fault) (answer texts f.0 k f.1).0

pub stream_ends : (old before after : Texts) (entry stream next : Pp) (lexer : Lexer) (refusal : Refusal) → ReadsSome old before entry stream lexer → IsAnswer (Err refusal) before after stream next → KeepsNumbers before after → EndsBy refusal old after entry
stream_ends old before after entry stream next lexer refusal s a keeps = ends_by old before after entry stream next lexer refusal s keeps a.next

-- ---- a set of files

same_some : {A : Type 0} (x y : A) → Some x ≡ Some y → x ≡ y
same_some x y e = cc

-- a table with as many texts as before, each with its number, is the same
pub same_table : (a b : Texts) → KeepsNumbers a b → length a ≡ length b → b ≡ a
same_table [] [] keeps same = refl
same_table [] (y ∷ b) keeps same = absurd (omega (arith, same))
same_table (x ∷ a) [] keeps same = absurd (omega (arith, same))
same_table (x ∷ a) (y ∷ b) keeps same =
    ap (λ k. k ∷ b) (same_some y x (keeps 0 x refl)) ∙ ap (λ k. x ∷ k) (same_table a b (λ n text e. keeps (suc n) text e) (omega (arith, same)))

-- the name of the main file has its number still
pub numbers_at : (name : List ℕ) (first late : Texts) → ((n : ℕ) × (slice_get first n ≡ Some name)) → KeepsNumbers first late → NumbersOnce late → Numbers late name
numbers_at name first late named keeps once = record { once = once; file = named.0; named = keeps named.0 name named.1 }

-- a property of the reported fault implies a weaker one
pub told_as : (stop : Stop) (P Q : Fault → Type 0) → ((f : Fault) → P f → Q f) → IsStopTold P stop → IsStopTold Q stop
told_as Stop.Memory P Q means h = absurd h
told_as (Stop.At code line) P Q means h = absurd h
told_as (Stop.Told fault) P Q means h = means fault h

module _ (set : Files) (name : List ℕ) (early : Texts) (stream : Pp) (begins : (texts : Texts) → KeepsNumbers early texts → IsRest early texts stream (phase4 set texts name)) where
  refused_as : (late : Texts) (refusal : Refusal) → KeepsNumbers early late → EndsBy refusal early late stream → (texts : Texts) → KeepsNumbers late texts → IsRefused set texts name refusal
  refused_as late Memory keeps ends texts k = tt
  refused_as late (At c at) keeps ends texts k = record { stops = ends texts (phase4 set texts name) k (begins texts (keeps_both early late texts keeps k)) }
  refused_as late (Told c at n) keeps ends texts k = record { stops = ends texts (phase4 set texts name) k (begins texts (keeps_both early late texts keeps k)) }

  pub preprocess_fault : (late : Texts) (fault : Fault) (refusal : Refusal) → KeepsNumbers early late → EndsBy refusal early late stream → IsFaultOfRefusal fault late refusal → IsPreprocessFault fault set late name
  preprocess_fault late fault refusal keeps ends is = record { refusal = refusal; fault_is = is; refused = refused_as late refusal keeps ends }

  pub has_list : (late texts : Texts) (lexer : Lexer) (all : ReadsAll early late stream lexer) → KeepsNumbers early late → KeepsNumbers late texts → Numbers texts name → HasList set name texts all.front
  has_list late texts lexer all keeps more numbers = record {
    numbers = numbers;
    early = late;
    keeps = more;
    whole = λ later k. record { done = all.whole later (phase4 set later name) k (begins later (keeps_both early late later keeps k)) };
  }

  pub has_tokens : (late texts : Texts) (lexer : Lexer) (tokens : List Token) (all : ReadsAll early late stream lexer) → KeepsNumbers early late → KeepsNumbers late texts → Numbers texts name →
      ((ctokens all.front).fault ≡ None) × AreTokensOf texts (ctokens all.front).tokens tokens → HasTokens set name texts tokens
  has_tokens late texts lexer tokens all keeps more numbers are = record {
    list = all.front;
    has_list = has_list late texts lexer all keeps more numbers;
    no_fault = are.0;
    tokens_are = are.1;
  }

  token_fault : (texts : Texts) (list : List PpToken) (fault : Fault) (r : Option Refusal) → HasList set name texts list → (ctokens list).fault ≡ r → IsTokenFault fault texts r → FailsTokens set name fault ⊎ IsMemoryFault fault
  token_fault texts list fault None has e h = inr h
  token_fault texts list fault (Some refusal) has e h = inl (record { texts = texts; list = list; has_list = has; refusal = refusal; first = e; fault_is = h })

  pub fails_tokens : (late texts : Texts) (lexer : Lexer) (fault : Fault) (all : ReadsAll early late stream lexer) → KeepsNumbers early late → KeepsNumbers late texts → Numbers texts name → IsTokenFault fault texts (ctokens all.front).fault →
      FailsPreprocessing set name fault ⊎ FailsTokens set name fault ⊎ IsMemoryFault fault
  fails_tokens late texts lexer fault all keeps more numbers h =
      inr (token_fault texts all.front fault (ctokens all.front).fault (has_list late texts lexer all keeps more numbers) refl h)
