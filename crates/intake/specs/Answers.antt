-- What a response says, and the texts that it is written by.
use Rattle.std.specs.Prelude.{ℕ, List, [], ◌++◌, Option, Some, None, codes, option_map}
use Rattle.definitions.specs.Response.{Response, bare, header, phrase, plain_type, with_body, x12_type}
use Rattle.page.specs.Pages.{page_type}
use Rattle.intake.specs.declared.response.Status.{Status}
use Rattle.intake.specs.declared.response.Status.TheVariants.{Okay, NoContent, BadRequest, Forbidden, NotFound, MethodNotAllowed, Conflict, LengthRequired, PayloadTooLarge, MisdirectedRequest, UnprocessableEntity, NotImplemented, ServiceUnavailable}
use Rattle.intake.specs.declared.response.MediaType.{MediaType}
use Rattle.intake.specs.declared.response.MediaType.TheVariants.{Plain, Interchange, Page}
use Rattle.intake.specs.declared.response.Allow.{Allow}
use Rattle.intake.specs.declared.response.Allow.TheVariants.{Get, Post}
use Rattle.intake.specs.declared.response.Body.{Body}
use Rattle.intake.specs.declared.response.Body.TheVariants.{Fixed, Owned}
use Rattle.intake.specs.declared.response.Response.{Response as Answer}

abbrev pub number : Status → ℕ
number Okay = 200
number NoContent = 204
number BadRequest = 400
number Forbidden = 403
number NotFound = 404
number MethodNotAllowed = 405
number Conflict = 409
number LengthRequired = 411
number PayloadTooLarge = 413
number MisdirectedRequest = 421
number UnprocessableEntity = 422
number NotImplemented = 501
number ServiceUnavailable = 503

abbrev pub type_name : MediaType → List ℕ
type_name Plain = plain_type
type_name Interchange = x12_type
type_name Page = page_type

abbrev pub method_name : Allow → List ℕ
method_name Get = codes "GET"
method_name Post = codes "POST"

abbrev pub body_bytes : Body → List ℕ
body_bytes (Fixed bytes) = bytes.now
body_bytes (Owned bytes) = bytes.items

abbrev pub seen : Answer → Response
seen r = record {
  status = number r.status;
  kind = option_map type_name r.kind;
  allow = option_map method_name r.allow;
  body = body_bytes r.body;
}

-- the field of the type, and the name of the field of the length
abbrev pub type_text : Option MediaType → List ℕ
type_text None = []
type_text (Some kind) = header (codes "Content-Type") (type_name kind) ++ codes "Content-Length: "

abbrev pub length_text : Option MediaType → List ℕ → List ℕ
length_text None digits = []
length_text (Some kind) digits = digits

abbrev pub type_end : Option MediaType → List ℕ
type_end None = []
type_end (Some kind) = codes "\r\n"

abbrev pub allow_text : Option Allow → List ℕ
allow_text None = []
allow_text (Some method) = header (codes "Allow") (method_name method)

-- the parts of a response, with the digits of its status and of its length
abbrev pub parts : Answer → List ℕ → List ℕ → List ℕ
parts r code digits = codes "HTTP/1.1 "
    ++ (code ++ (codes " " ++ (phrase (number r.status) ++ (codes "\r\n"
    ++ (type_text r.kind ++ (length_text r.kind digits ++ (type_end r.kind ++ (allow_text r.allow
    ++ (codes "Connection: close\r\n\r\n" ++ (body_bytes r.body ++ []))))))))))

-- a status with its phrase, written out
abbrev pub fixed_text : Status → List ℕ
fixed_text Okay = codes "200 OK\n"
fixed_text NoContent = codes "204 No Content\n"
fixed_text BadRequest = codes "400 Bad Request\n"
fixed_text Forbidden = codes "403 Forbidden\n"
fixed_text NotFound = codes "404 Not Found\n"
fixed_text MethodNotAllowed = codes "405 Method Not Allowed\n"
fixed_text Conflict = codes "409 Conflict\n"
fixed_text LengthRequired = codes "411 Length Required\n"
fixed_text PayloadTooLarge = codes "413 Payload Too Large\n"
fixed_text MisdirectedRequest = codes "421 Misdirected Request\n"
fixed_text UnprocessableEntity = codes "422 Unprocessable Entity\n"
fixed_text NotImplemented = codes "501 Not Implemented\n"
fixed_text ServiceUnavailable = codes "503 Service Unavailable\n"

-- the response with the text under a number of a depositor, if there is one
abbrev pub told_text : Option (Option (List ℕ)) → Response
told_text None = bare 404
told_text (Some None) = bare 404
told_text (Some (Some text)) = with_body 200 x12_type text
