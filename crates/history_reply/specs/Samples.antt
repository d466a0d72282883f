-- Small histories and what they print. Assumes nothing.
use Rattle.std.specs.Prelude.{◌≡◌, [], codes}
use Rattle.history_reply.specs.Transcript.{transcript}

pub record Samples : Type 0 where
  -- weights 2 and 1, M 10, capacity 8: both sessions send, one packet is filed, two calls are refused
  pub small_history : transcript (codes "link 7 10 8 2\nsess 1\nopen\narr 0 6 100\narr 1 2 101\nat 2\nfigs 1\ntake\nfiled\narr 0 11 102\nat 1\ntots\n") ≡ codes "link 7\nsess 1\nopen 3\narr 0 7 17\narr 1 5 15\nat 2 1\nfigs 2 2 0 2 0\ntook 1 1 101 0 2\nfiled 1\nrefused 33\nrefused 41\ntots 1 0 0 0 1 0\n"
  -- each fault: an empty line counts, two spaces enclose an empty field, a leading zero and 2 ^ 64 are no numbers
  pub faults : transcript (codes "open\n\nlinks 1\nlink 7 10 8\nlink 7 10  2\nlink 07 10 8 2\n link 7 10 8 2\nlink 7 10 18446744073709551616 2x\nlink 7 10 8 2\nlink 7 10 8 2\ntake") ≡ codes "text 62 1 1\ntext 61 3 1\ntext 63 4 1\ntext 64 5 11\ntext 64 6 6\ntext 61 7 1\ntext 64 8 11\nlink 7\ntext 62 10 1\ntext 62 11 1\n"
  -- a refused link leaves nothing made; a capacity of one; nothing to take; a slip that is in hand at the end is returned
  pub in_hand : transcript (codes "link 65536 10 1 1\nlink 0 10 1 1\nsess 0\nsess 1\nopen\narr 0 4 9\narr 1 1 8\ntake\nat 1\nfigs 1\narr 1 1 18446744073709551615\narr 0 1 0\nat 5\nfigs 0\ntake\ntake\nat 17592186044417") ≡ codes "refused 11\nlink 0\nrefused 21\nsess 1\nopen 2\narr 0 6 16\nrefused 34 71\ntook none\nat 1 0\nfigs 0 0 0 0 0\narr 1 1 11\nrefused 34 71\nat 5 2\nfigs 4 4 4 0 0\ntook 0 0 9 0 4\ntext 62 16 1\nrefused 42\nback 0\n"
  -- the round server is ahead of the line: a negative lead
  pub behind : transcript (codes "link 7 10 8 2\nsess 1\nopen\narr 0 6 1\narr 1 2 2\nat 2\nfigs 0") ≡ codes "link 7\nsess 1\nopen 3\narr 0 7 17\narr 1 5 15\nat 2 1\nfigs 6 0 2 -2 6\n"
  -- no input, no output
  pub empty : transcript [] ≡ []
