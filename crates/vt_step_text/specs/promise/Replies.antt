-- The output of a replay.
use Rattle.std.specs.Prelude.{ℕ, List, [], ◌∷◌, ◌++◌, length, Result, Ok, Err, codes}
use Rattle.std.specs.List.{flat_map}
use Rattle.std.specs.Fmt.{decimal}
use Rattle.vt_key.specs.promise.Times.{Time, ticks_of, priority_of}
use Rattle.vt_key.specs.promise.Faults.{fault_number}
use Rattle.vt_key.specs.declared.fault.Fault.{Fault}
use Rattle.vt_model.specs.declared.rows.Record.{Record}
use Rattle.vt_steps.specs.declared.step.Reply.{Reply}
use Rattle.vt_steps.specs.declared.step.Reply.TheVariants.{Done, Waiting, Again, Announced}
use Rattle.vt_text.specs.declared.version.Version.{Version}
use Rattle.vt_text.specs.promise.Records.{records_text}

-- a time as text: its tick, a space (32) and its priority
abbrev pub time_text : Time → List ℕ
time_text t = decimal (ticks_of t) ++ 32 ∷ decimal (priority_of t)

-- what a step was answered, as text: what was replied, or the number of the refusal
abbrev pub answer_text : Result Reply Fault → List ℕ
answer_text (Ok Done) = codes "ok"
answer_text (Ok Waiting) = codes "waiting"
answer_text (Ok Again) = codes "again"
answer_text (Ok (Announced t)) = codes "announced " ++ time_text t
answer_text (Err fault) = codes "refused " ++ decimal (fault_number fault)

-- the line of an answer: the number of the step's line, a space (32), what the step was answered, and a newline (10)
abbrev pub reply_text : ℕ → Result Reply Fault → List ℕ
reply_text line answer = decimal line ++ (codes " " ++ (answer_text answer ++ 10 ∷ []))

-- the answer to the step of a line
pub record NumberedAnswer : Type 0 where
  pub line : ℕ
  pub answer : Result Reply Fault

-- a line for each answer, in order
abbrev pub replies_text : List NumberedAnswer → List ℕ
replies_text replies = flat_map (λ reply. reply_text reply.line reply.answer) replies

-- a line of a word and a time
abbrev pub time_line : List ℕ → Time → List ℕ
time_line word t = word ++ (time_text t ++ 10 ∷ [])

-- what the world shows at the end: the announced time, the floor of the book, the least time, and how many records the book
-- shows
unfoldable pub shown_text : Time → Time → Time → ℕ → List ℕ
shown_text announced floor least records =
    time_line (codes "announced ") announced
    ++ (time_line (codes "floor ") floor
    ++ (time_line (codes "least ") least
    ++ (codes "records " ++ (decimal records ++ 10 ∷ []))))

-- what the world shows at the end, and the text of its records in a version
abbrev pub state_text : Version → Time → Time → Time → List Record → List ℕ
state_text version announced floor least records = shown_text announced floor least (length records) ++ records_text version records

-- the output of a replay: a line for each answer, and then what the world shows
abbrev pub replay_text : Version → List NumberedAnswer → Time → Time → Time → List Record → List ℕ
replay_text version replies announced floor least records = replies_text replies ++ state_text version announced floor least records
