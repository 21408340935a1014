-- The server: what each field replies.
use Rattle.std.specs.Prelude.{ℤ, codes, cond, Option, Some, None}
use Rattle.std.specs.Str.{bytes_eq}
use Rattle.juniper.specs.Server.{Members, Name, Reply, answered, find, int_argument, int_reply, nothing, text_reply, with_read}

-- `echo` replies its argument
abbrev pub echo_reply : {N : Type 0} → Option ℤ → Reply N
echo_reply None = answered nothing
echo_reply (Some number) = int_reply number

-- what a field replies
abbrev pub query_reply : {N : Type 0} → Name → Members → Reply N
query_reply field arguments =
    cond (bytes_eq field (codes "hello")) (text_reply (codes "world"))
    (cond (bytes_eq field (codes "echo")) (with_read (int_argument (find (codes "number") arguments)) echo_reply)
    (answered nothing))
