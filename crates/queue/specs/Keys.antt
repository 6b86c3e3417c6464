-- A key's handle, and the order of keys. Assumes nothing.
use Rattle.std.specs.Prelude.{ℕ, Bool, ◌&&◌, ◌||◌, ◌==◌, nat_lt}
use Rattle.queue.specs.declared.key.Key.{Key}

-- a key waits under its junction
abbrev pub key_handle : Key → ℕ
key_handle k = k.junction

-- the lesser height is before, and of equal heights the lesser junction
abbrev pub key_before : Key → Key → Bool
key_before k l = nat_lt k.height l.height || (k.height == l.height && nat_lt k.junction l.junction)
