-- Spans of addresses.
use Rattle.std.specs.Prelude.{◌≡◌, ℕ, Bool, true, false, cond, ◌&&◌, Ok, Err, Result, nat_le}
use Rattle.crf.specs.declared.span.Span.{Span}
use Rattle.crf.specs.declared.span.SpanEnds.{SpanEnds}
use Rattle.crf.specs.declared.span.SpanFault.{SpanFault}
use Rattle.crf.specs.declared.span.SpanFault.TheVariants.{Ends as EndsFault}

-- the number of each refusal
abbrev pub span_fault_number : SpanFault → ℕ
span_fault_number EndsFault = 13

-- the test that two ends make a span
abbrev pub fit : ℕ → ℕ → Bool
fit low high = nat_le low high && nat_le high 1023

-- making a span: the span of the two ends where they are fit, else the refusal
abbrev pub Made : ℕ → ℕ → Result Span SpanFault → Type 0
Made low high (Ok s) = (fit low high ≡ true) × (s.low ≡ low) × (s.high ≡ high)
Made low high (Err f) = (fit low high ≡ false) × (span_fault_number f ≡ 13)

-- the ends of the span that a row's ends are read as: those, or the whole span's where they make none
abbrev pub low_of : ℕ → ℕ → ℕ
low_of low high = cond (fit low high) low 0

abbrev pub high_of : ℕ → ℕ → ℕ
high_of low high = cond (fit low high) high 1023

abbrev pub Ends : ℕ → ℕ → Span → Type 0
Ends low high s = (s.low ≡ low_of low high) × (s.high ≡ high_of low high)

-- the test that an address lies between two ends
abbrev pub between : ℕ → ℕ → ℕ → Bool
between low high a = nat_le low a && nat_le a high

-- the span that a row's ends are read as holds the address
abbrev pub within : ℕ → ℕ → ℕ → Bool
within low high a = between (low_of low high) (high_of low high) a

-- a span's ends, as a row holds them
abbrev pub ends_of : Span → SpanEnds
ends_of s = record { low = s.low; high = s.high }

-- the span of all addresses
abbrev pub All : Span → Type 0
All s = (s.low ≡ 0) × (s.high ≡ 1023)
