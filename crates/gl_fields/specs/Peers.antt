-- The host and the port of a peer (this project).
use Rattle.std.specs.Prelude.{ℕ, Bool, List, length, nat_lt, ◌==◌, if◌then◌else◌, Option, Some, None}
use Rattle.std.specs.List.{before_first, after_first}
use Rattle.gl_base.specs.Bytes.{next_is}
use Rattle.gl_base.specs.Digits.{digits_within}

abbrev pub is_colon : ℕ → Bool
is_colon b = b == 58

abbrev pub some_port : Option ℕ → Option ℕ
some_port None = None
some_port (Some port) = if nat_lt 0 port then Some port else None

-- the number of a port: the decimal of 1 to 65,535, with no zero before it
abbrev pub port_in : List ℕ → Option ℕ
port_in digits = if next_is 48 digits then None else some_port (digits_within 65535 0 digits)

-- a host that isn't empty with a port, and else the whole text, without one
abbrev pub host_and_port : List ℕ → List ℕ → Option ℕ → List ℕ × ℕ
host_and_port text host None = (text, 0)
host_and_port text host (Some port) = if nat_lt 0 (length host) then (host, port) else (text, 0)

-- what stands before the first colon, where a port stands behind it
abbrev pub split_peer : List ℕ → List ℕ × ℕ
split_peer text = host_and_port text (before_first is_colon text) (port_in (after_first is_colon text))
