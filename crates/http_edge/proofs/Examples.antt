-- Worked examples of what fields say, of a request, of the parts of replies, and of texts that are written.
use Rattle.std.proofs.Common.{refl, ℕ, List, ◌≡◌, true, false, [], ◌∷◌, ◌++◌, Some, None, Ok, Err, codes}
use Rattle.std.specs.Fmt.{digits}
use Rattle.httparse.specs.Grammar.{RequestHead, crlf, print_request, trim_ows, print_chunk_line}
use Rattle.http_edge.specs.declared.error.EdgeError.TheVariants.{Chunked, BadLength, BodyTooLong}
use Rattle.http_edge.specs.Fields.{length_of, values_of, body_told, says_close}
use Rattle.http_edge.specs.Requests.{pairs_of, closes}
use Rattle.http_edge.specs.declared.message.HttpField.{HttpField}
use Rattle.http_edge.specs.declared.message.HttpResponse.{HttpResponse}
use Rattle.http_edge.specs.declared.message.HttpRequest.{HttpRequest}
use Rattle.http_edge.specs.declared.form.BodyForm.TheVariants.{BySize, ByChunks, ToEnd}
use Rattle.http_edge.specs.Replies.{form_told, Chunk, print_chunks, joined}
use Rattle.http_edge.specs.Texts.{request_text, response_text}

zeros_may_lead : length_of (codes "003") ≡ Some 3
zeros_may_lead = refl

no_sign : length_of (codes "+3") ≡ None
no_sign = refl

some_digit : length_of [] ≡ None
some_digit = refl

no_19th_digit : length_of (codes "0000000000000000003") ≡ None
no_19th_digit = refl

case_is_no_matter : values_of (codes "Content-Length") ((codes "content-LENGTH", codes "3") ∷ (codes "Host", codes "a") ∷ []) ≡ codes "3" ∷ []
case_is_no_matter = refl

no_field_no_body : body_told [] ≡ Ok 0
no_field_no_body = refl

two_lengths : body_told ((codes "Content-Length", codes "3") ∷ (codes "Content-Length", codes "3") ∷ []) ≡ Err BadLength
two_lengths = refl

coding_first : body_told ((codes "Content-Length", codes "x") ∷ (codes "Transfer-Encoding", codes "chunked") ∷ []) ≡ Err Chunked
coding_first = refl

longest : body_told ((codes "Content-Length", codes "4194304") ∷ []) ≡ Ok 4194304
longest = refl

too_long : body_told ((codes "Content-Length", codes "4194305") ∷ []) ≡ Err (BodyTooLong 4194305)
too_long = refl

close_in_any_case : says_close ((codes "connection", codes "Close") ∷ []) ≡ true
close_in_any_case = refl

close_in_a_list : says_close ((codes "Connection", codes "te, close") ∷ []) ≡ false
close_in_a_list = refl

-- a request with a body of three bytes
abbrev example : RequestHead
example = record {
  blank = [];
  method = codes "PUT";
  target = codes "/a";
  minor = 1;
  line_end = crlf;
  fields = record { name = codes "Content-Length"; raw = codes " 3"; end = crlf } ∷ [];
  last = crlf;
}

is_spelled : print_request example ++ codes "abc" ≡ codes "PUT /a HTTP/1.1\r\nContent-Length: 3\r\n\r\nabc"
unfolding print_request
is_spelled = refl

tells_three : body_told (pairs_of example) ≡ Ok 3
unfolding trim_ows
tells_three = refl

stays_open : closes example ≡ false
unfolding trim_ows
stays_open = refl

-- ---- texts that are written

abbrev json : HttpField
json = record { name = codes "Content-Type"; value = codes "application/json" }

abbrev chunked_field : HttpField
chunked_field = record { name = codes "transfer-encoding"; value = codes "chunked" }

abbrev answer : ℕ → HttpResponse
answer status = record { status = status; fields = json ∷ chunked_field ∷ []; body = codes "{}" }

length_is_last : response_text (answer 200) ≡ codes "HTTP/1.1 200 OK\r\nContent-Type: application/json\r\nContent-Length: 2\r\n\r\n{}"
unfolding response_text digits
length_is_last = refl

no_content_no_length : response_text (answer 204) ≡ codes "HTTP/1.1 204 No Content\r\nContent-Type: application/json\r\n\r\n"
unfolding response_text digits
no_content_no_length = refl

no_phrase_keeps_the_space : response_text (answer 299) ≡ codes "HTTP/1.1 299 \r\nContent-Type: application/json\r\nContent-Length: 2\r\n\r\n{}"
unfolding response_text digits
no_phrase_keeps_the_space = refl

-- ---- replies

sized_reply : form_told 200 ((codes "Content-Length", codes "3") ∷ []) ≡ Ok (BySize 3)
sized_reply = refl

chunked_reply : form_told 200 ((codes "Content-Length", codes "x") ∷ (codes "transfer-encoding", codes "Chunked") ∷ []) ≡ Ok ByChunks
chunked_reply = refl

reply_to_the_end : form_told 200 ((codes "Host", codes "a") ∷ []) ≡ Ok ToEnd
reply_to_the_end = refl

other_coding : form_told 200 ((codes "Transfer-Encoding", codes "gzip, chunked") ∷ []) ≡ Err Chunked
other_coding = refl

no_content_no_body : form_told 204 ((codes "Transfer-Encoding", codes "gzip") ∷ []) ≡ Ok (BySize 0)
no_content_no_body = refl

abbrev chunks : List Chunk
chunks = record { line = record { digits = codes "3"; pad = []; extension = None }; bytes = codes "abc" } ∷ record { line = record { digits = codes "02"; pad = []; extension = Some (codes "x") }; bytes = codes "de" } ∷ []

chunks_are_spelled : print_chunks chunks ≡ codes "3\r\nabc\r\n02;x\r\nde\r\n"
unfolding print_chunk_line
chunks_are_spelled = refl

chunks_are_joined : joined chunks ≡ codes "abcde"
chunks_are_joined = refl

abbrev asked : HttpRequest
asked = record { method = codes "PUT"; target = codes "/a"; fields = record { name = codes "Host"; value = codes "b" } ∷ []; body = codes "5"; close = false }

request_is_spelled : request_text asked ≡ codes "PUT /a HTTP/1.1\r\nHost: b\r\nContent-Length: 1\r\n\r\n5"
unfolding request_text digits
request_is_spelled = refl
