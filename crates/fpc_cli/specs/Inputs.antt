-- The inputs of a command, and how they are read: one after the other, and the first that isn't
-- good decides the answer.
use Rattle.std.specs.Prelude.{◌≡◌, ◌≢◌, ◌⊎◌, ℕ, ◌<◌, ◌≤◌, List, [], ◌∷◌, ◌++◌, length}
use Rattle.fpc_base.specs.Outside.{Outside, Content, missing, holds, Rose, IsAtEnd, IsAtStartOf, Opens}
use Rattle.fpc_base.specs.declared.refusal.Code.TheVariants.{TooLarge}
use Rattle.fpc_base.specs.declared.refusal.ParseRefusal.{ParseRefusal}
use Rattle.fpc_base.specs.declared.refusal.ParseRefusal.TheVariants as parse
use Rattle.fpc_base.specs.declared.refusal.Refusal.{Refusal}
use Rattle.fpc_cli.specs.declared.answer.Answer.{Answer}
use Rattle.fpc_cli.specs.declared.answer.Answer.TheVariants.{Refused, ReadFault, OutOfMemory}
use Rattle.fpc_cli.specs.declared.answer.Role.{Role}
use Rattle.fpc_cli.specs.Held.{MayHold, MayBeTooLarge, IsTakenOf, IsKnown}

-- how the bytes of an input are read: which are whole, and how others are refused
pub record Grammar : Type 1 where
  pub IsWhole : List ℕ → Type 0
  pub Refuses : List ℕ → Refusal → Type 0

-- an input of a command; a grammar may depend on the bytes of the inputs before
pub data Input : Type 1 where
  -- a file that is opened and read whole
  source : Role → (name : List ℕ) → (grammar : List (List ℕ) → Grammar) → Input
  -- bytes that are at hand, such as a word
  at_hand : Role → (text : List ℕ) → (grammar : List (List ℕ) → Grammar) → Input
  -- a file that is opened, and whose bytes the command takes as they come
  stream : (name : List ℕ) → Input

-- the refusal of more bytes than a source may have
abbrev pub too_large : Refusal
too_large = record { code = TooLarge; at = 16777216 }

-- the bytes are within the size of a source, and whole
abbrev pub IsAccepted : Grammar → List ℕ → Type 0
IsAccepted grammar bytes = (length bytes ≤ 16777216) × grammar.IsWhole bytes

-- why bytes are refused: for their size, else by the grammar
abbrev pub IsRefused : Grammar → List ℕ → Refusal → Type 0
IsRefused grammar bytes refusal =
    ((refusal ≡ too_large) × (16777216 < length bytes))
    ⊎ ((length bytes ≤ 16777216) × grammar.Refuses bytes refusal)

-- the file was opened, and no fault came
pub record IsOpened (content : Content) (name : List ℕ) (old new : Outside) : Type 0 where
  pub start : IsAtStartOf content new.left
  pub named : Opens old.opened name new.opened
  pub calm : new.faults ≡ old.faults

-- the file could not be opened: that failed, or the file is told as missing
pub record IsUnopened (content : Content) (old new : Outside) : Type 0 where
  pub reason : Rose old.faults new.faults ⊎ (content ≡ missing)
  pub none : new.opened ≡ old.opened

-- the file was opened, and at most one byte more of it was taken than a source may have
pub record IsReadIn (content : Content) (name : List ℕ) (old new : Outside) : Type 0 where
  pub named : Opens old.opened name new.opened
  pub taken : IsTakenOf 16777217 content new.left

-- the file was read to its end, it may hold these bytes, and no fault came
pub record IsReadWhole (content : Content) (name : List ℕ) (old new : Outside) (bytes : List ℕ)
    : Type 0 where
  pub read : IsReadIn content name old new
  pub end : IsAtEnd new.left
  pub held : MayHold content bytes
  pub size : length bytes ≤ 16777216
  pub calm : new.faults ≡ old.faults

-- Why the bytes of a file could not be had: it could not be opened, a read failed, memory ran
-- out, or the file is too large.
abbrev pub IsUnread : Role → Content → List ℕ → Outside → Outside → Answer → Type 0
IsUnread role content name old new ReadFault =
    IsUnopened content old new ⊎ (IsReadIn content name old new × Rose old.faults new.faults)
IsUnread role content name old new OutOfMemory =
    IsReadIn content name old new × (new.faults ≡ old.faults)
IsUnread role content name old new (Refused r refusal) =
    (r ≡ role) × (refusal ≡ too_large) × MayBeTooLarge content × IsReadIn content name old new
    × (new.faults ≡ old.faults)
IsUnread role content name old new _ = ⊥

-- the answer to bytes that aren't whole is their refusal; or memory ran out
abbrev pub IsRefusal : Role → Grammar → List ℕ → Answer → Type 0
IsRefusal role grammar bytes OutOfMemory = Unit {0}
IsRefusal role grammar bytes (Refused r refusal) = (r ≡ role) × IsRefused grammar bytes refusal
IsRefusal role grammar bytes _ = ⊥

-- the grammar's refusal of bytes; or memory ran out
abbrev pub IsParseRefusal : Grammar → List ℕ → ParseRefusal → Type 0
IsParseRefusal grammar bytes (parse.Refused r) = grammar.Refuses bytes r
IsParseRefusal grammar bytes parse.OutOfMemory = Unit {0}

-- the file was read whole, and its bytes are refused
pub record IsReadAndRefused (role : Role) (grammar : Grammar) (content : Content) (name : List ℕ)
    (old new : Outside) (answer : Answer) : Type 0 where
  pub bytes : List ℕ
  pub whole : IsReadWhole content name old new bytes
  pub refusal : IsRefusal role grammar bytes answer

-- the input isn't good, and the answer says why
abbrev pub Decides
    : (List ℕ → Content) → List (List ℕ) → Input → Outside → Outside → Answer → Type 0
Decides content earlier (source role name grammar) old new answer =
    IsUnread role (content name) name old new answer
    ⊎ IsReadAndRefused role (grammar earlier) (content name) name old new answer
Decides content earlier (at_hand role text grammar) old new answer =
    (new ≡ old) × IsRefusal role (grammar earlier) text answer
Decides content earlier (stream name) old new answer =
    (answer ≡ ReadFault) × IsUnopened (content name) old new

-- The input is good, and these are its bytes. Of a stream none are taken yet.
abbrev pub IsGood
    : (List ℕ → Content) → List (List ℕ) → Input → Outside → Outside → List ℕ → Type 0
IsGood content earlier (source role name grammar) old new bytes =
    IsReadWhole (content name) name old new bytes × (grammar earlier).IsWhole bytes
IsGood content earlier (at_hand role text grammar) old new bytes =
    (new ≡ old) × (bytes ≡ text) × IsAccepted (grammar earlier) text
IsGood content earlier (stream name) old new bytes =
    (bytes ≡ []) × IsOpened (content name) name old new

-- what a command does with its inputs where all are good, from their bytes
abbrev pub Ending : Type 1
Ending = List (List ℕ) → Outside → Outside → Answer → Type 0

-- The inputs are read one after the other. The first that isn't good decides the answer; where all
-- are good, the answer is the one of the command's ending.
abbrev pub Comes
    : (List ℕ → Content) → Ending → List (List ℕ) → List Input → Outside → Outside → Answer → Type 0
Comes content Ends earlier [] old new answer = Ends earlier old new answer
Comes content Ends earlier (input ∷ inputs) old new answer =
    Decides content earlier input old new answer
    ⊎ ((mid : Outside) × ((bytes : List ℕ) × (IsGood content earlier input old mid bytes
    × Comes content Ends (earlier ++ bytes ∷ []) inputs mid new answer)))

-- it is told of each file among the inputs what it holds, or that there is none
abbrev pub AreKnown : (List ℕ → Content) → List Input → Type 0
AreKnown content [] = Unit {0}
AreKnown content (source role name grammar ∷ inputs) =
    IsKnown (content name) × AreKnown content inputs
AreKnown content (at_hand role text grammar ∷ inputs) = AreKnown content inputs
AreKnown content (stream name ∷ inputs) = IsKnown (content name) × AreKnown content inputs

-- the answer is the one that bytes call for: their refusal, or, where they are whole, what comes
-- after them
abbrev pub IsDueTo : Role → Grammar → List ℕ → Answer → Type 0 → Type 0
IsDueTo role grammar bytes answer Then =
    ((refusal : Refusal) → IsRefused grammar bytes refusal → answer ≡ Refused role refusal)
    × (IsAccepted grammar bytes → Then)

-- The answer is the one that the contents of the files call for: a missing file, a refusal, or,
-- where all inputs are good, what is due of the command from their bytes.
abbrev pub IsDue
    : (List ℕ → Content) → (List (List ℕ) → Answer → Type 0) → List (List ℕ) → List Input → Answer
    → Type 0
IsDue content Due earlier [] answer = Due earlier answer
IsDue content Due earlier (source role name grammar ∷ inputs) answer =
    (content name ≡ missing → answer ≡ ReadFault)
    × ((bytes : List ℕ) → content name ≡ holds bytes
    → IsDueTo role (grammar earlier) bytes answer
    (IsDue content Due (earlier ++ bytes ∷ []) inputs answer))
IsDue content Due earlier (at_hand role text grammar ∷ inputs) answer =
    IsDueTo role (grammar earlier) text answer
    (IsDue content Due (earlier ++ text ∷ []) inputs answer)
IsDue content Due earlier (stream name ∷ inputs) answer =
    (content name ≡ missing → answer ≡ ReadFault)
    × (content name ≢ missing → IsDue content Due (earlier ++ [] ∷ []) inputs answer)

-- What a command does: its inputs, how it ends where all of them are good, by the contents of the
-- files, and what the contents call for then.
pub record Task : Type 1 where
  pub inputs : List Input
  pub Ends : (List ℕ → Content) → Ending
  pub Due : (List ℕ → Content) → List (List ℕ) → Answer → Type 0

-- the answer comes of what a command does
abbrev pub ComesOf : (List ℕ → Content) → Task → Outside → Outside → Answer → Type 0
ComesOf content task old new answer =
    Comes content (task.Ends content) [] task.inputs old new answer
