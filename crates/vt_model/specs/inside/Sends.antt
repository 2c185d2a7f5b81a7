-- What a handler asks for, and what becomes of it.
use Rattle.std.specs.Prelude.{ℕ, ◌+◌, List, [], ◌++◌, length}
use Rattle.vt_key.specs.promise.Times.{Time}
use Rattle.vt_model.specs.declared.sending.Sent.{Sent}
use Rattle.vt_model.specs.declared.rows.Record.{Record}
use Rattle.vt_model.specs.promise.Sends.{SendRequest, RecordRequest, sent_events, requested_records}

-- what a contract sees of an `Out`: the number of processes and the end of the run, whose handler it is and when, the
-- send number at its start and now, the sends below the end, and the records
pub record Outgoing (P : Type 0) : Type 0 where
  pub lps : ℕ
  pub end : Time
  pub lp : ℕ
  pub time : Time
  pub first : ℕ
  pub number : ℕ
  pub sends : List (Sent P)
  pub records : List Record

-- an out after these requests
abbrev pub with_requests : {P : Type 0} → Outgoing P → List (SendRequest P) → List RecordRequest → Outgoing P
with_requests o send_requests record_requests = record o {
  number = o.number + length send_requests;
  sends = o.sends ++ sent_events o.end o.lp o.time o.number send_requests;
  records = o.records ++ requested_records o.lp o.time record_requests;
}

-- an out as it was when its handler began
abbrev pub taken_back : {P : Type 0} → Outgoing P → Outgoing P
taken_back o = record o { number = o.first; sends = []; records = [] }
