-- Worked scripts: what the replay of each writes, and how it ends.
use Rattle.std.proofs.Common.{◌≡◌, ℕ, List, [], ◌∷◌, refl}
use Rattle.std.specs.Prelude.{codes}
use Rattle.std.specs.Fmt.{digits}
use Rattle.plain_commands.specs.Replay.{replay_of}

-- the script's replay writes this text and ends with this status
abbrev Writes : List ℕ → List ℕ → ℕ → Type 0
Writes script text status = ((replay_of script).text ≡ text) × ((replay_of script).status ≡ status)

-- an empty script
row_empty : Writes [] [] 0
row_empty = (refl, refl)

-- with reentrancy off the second call waits
abbrev waiting : List ℕ
waiting = codes "call 1 counter/7\ncall 2 counter/7\nend 1\n"

row_waiting : Writes waiting (codes "begin 1\nwait 2 1\nend 1 begin 2\n") 0
unfolding digits
row_waiting = (refl, refl)

-- no more turns of a chain than the depth, counted for each actor
abbrev deep : List ℕ
deep = codes "reentrant counter 2\ncall 1 counter/7 chain x\ncall 2 counter/7 chain x\ncall 3 counter/7 chain x\ncall 4 counter/8 chain x\n"

row_deep : Writes deep (codes "begin 1\nbegin 2\ndepth 3 2\nbegin 4\n") 0
unfolding digits
row_deep = (refl, refl)

-- another chain waits until every turn of the first has ended
abbrev chains : List ℕ
chains =
    codes "reentrant counter 2\ncall 1 counter/7 chain x\ncall 2 counter/7 chain x\ncall 3 counter/7 chain y\nend 1\nend 2\nend 2\nend 4\n"

row_chains : Writes chains (codes "begin 1\nbegin 2\nwait 3 1\nend 1\nend 2 begin 3\nalready-ended 2\nnone\n") 0
unfolding digits
row_chains = (refl, refl)

-- a wrong number, a key without an id, and a setting after an event
row_number : Writes (codes "call 2 counter/7\n") (codes "bad line 1 column 6\n") 3
unfolding digits
row_number = (refl, refl)

row_key : Writes (codes "call 1 counter\n") (codes "bad line 1 column 8\n") 3
unfolding digits
row_key = (refl, refl)

row_late : Writes (codes "call 1 counter/7\nreentrant counter 2\n") (codes "begin 1\nbad line 2 column 1\n") 3
unfolding digits
row_late = (refl, refl)

-- a member boots and asks to be registered; the placement begins a round of it
abbrev booting : List ℕ
booting = codes "cluster 1\nboot a counter\nto 1\nto 2\n"

row_booting : Writes booting (codes "boot a/1 msg 1\nmsg 2 lock 1\nnone\n") 0
unfolding digits
row_booting = (refl, refl)

-- a running member isn't lost, a moment isn't before the present one, and a call has the next number
row_lost : Writes (codes "cluster 1\nboot a counter\nlost a/1\n") (codes "boot a/1 msg 1\nbad line 3 column 1\n") 3
unfolding digits
row_lost = (refl, refl)

row_falling : Writes (codes "cluster 1\nat 5\nat 4\n") (codes "at 5\nbad line 3 column 4\n") 3
unfolding digits
row_falling = (refl, refl)

row_call_number : Writes (codes "cluster 1\ncall 2 a/1 counter/7\n") (codes "bad line 2 column 6\n") 3
unfolding digits
row_call_number = (refl, refl)
