-- The requests of callers, each under its key.
use Rattle.std.specs.Prelude.{ℕ, List, Option}
use Rattle.std.specs.Ordering.{nat_cmp, ordering_then}
use Rattle.std.specs.Cmp.Lexicographic.{slice_cmp}
use Rattle.std.specs.declared.cmp.Ordering.{Ordering}
use Rattle.std.specs.FinMap.Entries as rows
use Rattle.poll_book.specs.declared.requests.KeptRequest.{KeptRequest}
use Rattle.poll_book.specs.declared.requests.RequestRow.{RequestRow}

-- a caller and its key
abbrev pub RequestKey : Type 0
RequestKey = List ℕ × List ℕ

-- by caller, and then by key, as texts are ordered
abbrev pub request_cmp : RequestKey → RequestKey → Ordering
request_cmp a b = ordering_then (slice_cmp nat_cmp a.0 b.0) (slice_cmp nat_cmp a.1 b.1)

abbrev pub Requests : Type 0
Requests = List (RequestKey × KeptRequest)

-- the request of a caller under a key
abbrev pub request_at : Requests → RequestKey → Option KeptRequest
request_at table key = rows.find request_cmp key table

-- a table with the row put in
abbrev pub with_request : RequestKey → KeptRequest → Requests → Requests
with_request key request table = rows.put request_cmp key request table

abbrev pub as_request : RequestRow → RequestKey × KeptRequest
as_request row = ((row.caller, row.key), record { body = row.body; outcome = row.outcome })
