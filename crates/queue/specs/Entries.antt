-- An entry's handle and order, which are its key's. Assumes nothing.
use Rattle.std.specs.Prelude.{ℕ, Bool}
use Rattle.queue.specs.declared.entry.Entry.{Entry}
use Rattle.queue.specs.Keys.{key_handle, key_before}

-- an entry waits under its key's junction
abbrev pub entry_handle : {P : Type 0} → Entry P → ℕ
entry_handle e = key_handle e.key

-- the entry whose key is before is before
abbrev pub entry_before : {P : Type 0} → Entry P → Entry P → Bool
entry_before e f = key_before e.key f.key
