-- What a call of the frames answers and leaves, by what its rule says: exactly that, or want of memory and nothing changed.
use Rattle.std.specs.Prelude.{◌≡◌, Some, None}
use Rattle.std.specs.declared.option.Option.{Option}
use Rattle.std.specs.declared.result.Result.{Result}
use Rattle.std.specs.declared.result.Result.TheVariants.{Ok, Err}
use Rattle.kh_instr.specs.declared.operand.Reg.{Reg}
use Rattle.kh_instr.specs.declared.operand.Reg.TheVariants.{X, Y}
use Rattle.kh_frames.specs.Rules.{Answer, bad_code, past_limit, becomes}
use Rattle.kh_frames.specs.declared.error.FrameError.{FrameError}
use Rattle.kh_frames.specs.declared.error.FrameError.TheVariants.{BadCode, Limit, NoMemory}

-- the rule allows the call
abbrev pub Becomes : {S : Type 0} → Answer S → Type 0
Becomes bad_code = ⊥
Becomes past_limit = ⊥
Becomes (becomes s) = Unit {0}

-- a call that may want memory
abbrev pub Written : {S A : Type 0} → Answer S → S → Result A FrameError → S → Type 0
Written answer old (Ok done) new = answer ≡ becomes new
Written answer old (Err BadCode) new = (answer ≡ bad_code) × (new ≡ old)
Written answer old (Err Limit) new = (answer ≡ past_limit) × (new ≡ old)
Written answer old (Err NoMemory) new = Becomes answer × (new ≡ old)

-- a call that takes no memory, whose rule knows no limit
abbrev pub Judged : {S A : Type 0} → Answer S → S → Result A FrameError → S → Type 0
Judged answer old (Ok done) new = answer ≡ becomes new
Judged answer old (Err BadCode) new = (answer ≡ bad_code) × (new ≡ old)
Judged answer old (Err Limit) new = ⊥
Judged answer old (Err NoMemory) new = ⊥

-- a write to a register: to a slot it takes no memory
abbrev pub WrittenAt : {S A : Type 0} → Reg → Answer S → S → Result A FrameError → S → Type 0
WrittenAt (X n) answer old result new = Written answer old result new
WrittenAt (Y n) answer old result new = Judged answer old result new

-- a call that answers the place to go on at, and none where nothing changed
abbrev pub Led : {S P : Type 0} → Option (P × S) → S → Option P → S → Type 0
Led leads old (Some to) new = leads ≡ Some (to, new)
Led leads old None new = (leads ≡ None) × (new ≡ old)

abbrev pub Resumed : {S P : Type 0} → Answer (Option (P × S)) → S → Result (Option P) FrameError → S → Type 0
Resumed (becomes leads) old (Ok done) new = Led leads old done new
Resumed bad_code old (Err BadCode) new = new ≡ old
Resumed answer old done new = ⊥

-- a value that is read, or bad code
abbrev pub Fetched : {V : Type 0} → Option V → Result V FrameError → Type 0
Fetched value (Ok v) = value ≡ Some v
Fetched value (Err BadCode) = value ≡ None
Fetched value (Err Limit) = ⊥
Fetched value (Err NoMemory) = ⊥
